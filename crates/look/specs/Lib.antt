pub mod Firsts
pub mod Looking
