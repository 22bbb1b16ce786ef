-- What the contracts of the reader cite.
pub mod Records
