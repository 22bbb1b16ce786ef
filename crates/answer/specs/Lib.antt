-- What the contracts of the answer's bytes cite beside the paper.
pub mod Records
