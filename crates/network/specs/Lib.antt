-- What the contracts of the network file cite beside the paper.
pub mod Search
pub mod Records
