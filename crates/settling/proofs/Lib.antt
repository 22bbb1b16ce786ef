pub mod Gives
pub mod Walks
pub mod Puts
pub mod Settles
