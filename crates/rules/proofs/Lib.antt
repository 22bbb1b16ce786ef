-- Laws of the rules' sums. For callers: Ranges, that what was read of an accepted file is small, and Amounts, in which range an accepted
-- network's amounts lie.
pub mod Ranges
pub mod Amounts
