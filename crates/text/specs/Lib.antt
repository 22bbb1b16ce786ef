-- Text: a part of it that was written, and numbers in decimal.
pub mod Written
pub mod Decimal
