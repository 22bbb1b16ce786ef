-- Laws of a loop's sum, of its setup rules and of the next period. For callers: Callers.
pub mod Sums
pub mod Counts
pub mod Nexts
pub mod Callers
