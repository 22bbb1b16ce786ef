-- Laws of the answer's bytes. Callers need none of them.
pub mod Written
pub mod Latencies
pub mod Entries
pub mod Fronts
