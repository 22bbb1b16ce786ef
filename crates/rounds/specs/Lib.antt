pub mod Turning
pub mod Relaxation
