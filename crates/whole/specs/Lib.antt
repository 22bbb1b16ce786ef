pub mod Rounding
pub mod Sums
pub mod Four
pub mod Within
pub mod Parts
pub mod Between
