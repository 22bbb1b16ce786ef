-- For callers: Lin, how `omega` reads whole numbers; Four, what is written is read back; Rounding, what rounding up gives; Sums, Stores;
-- Machine, that 32 bits are some of 64.
pub mod Lin
pub mod Machine
pub mod Rounding
pub mod Sums
pub mod Stores
pub mod Four
pub mod Examples
