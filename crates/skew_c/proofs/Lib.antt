-- Laws of the packed integer. For readers: Unique. The others serve the proofs of the two functions.
pub mod Places
pub mod Unpacked
pub mod Unique
