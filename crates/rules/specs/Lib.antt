-- What the contracts of the rules' sums cite beside the paper.
pub mod Amounts
