-- What the contracts of the arrows in memory cite beside the loops' layout.
pub mod Filled
pub mod Filling
