-- For callers: Runs, how parts follow one another, and Decimal, what the digits say and how many there are.
pub mod Decimal
pub mod Runs
