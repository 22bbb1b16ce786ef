pub mod Known
pub mod Begin
pub mod Trial
pub mod Solved
