pub mod Trials
pub mod Attempts
pub mod Begins
pub mod Goings
