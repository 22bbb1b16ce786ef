pub mod Lines
pub mod Answers
pub mod Texts
pub mod Sample
