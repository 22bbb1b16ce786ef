-- What the contracts and theorems of the two public functions cite beside the paper.
pub mod Slack
pub mod Same
pub mod Proves
pub mod Rows
pub mod Asks
pub mod Reads
