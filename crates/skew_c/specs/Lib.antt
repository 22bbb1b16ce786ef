-- What the two functions for C and Rust callers return.
pub mod Packed
pub mod Returned
