-- Laws of the network file. For callers: Verdicts and Ranges.
pub mod Searching
pub mod Verdicts
pub mod Ranges
