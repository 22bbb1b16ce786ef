-- For callers: `Laid`.
pub mod Laid
pub mod Sources
pub mod Weighing
pub mod Fills
