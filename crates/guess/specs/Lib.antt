pub mod Guessing
