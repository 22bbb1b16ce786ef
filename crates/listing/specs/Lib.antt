-- The text of a listing: over an answer's bytes, and in the rules' own terms.
pub mod Text
pub mod ResultText
pub mod Listable
