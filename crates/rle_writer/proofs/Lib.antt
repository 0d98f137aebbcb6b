pub mod Bits
pub mod Runs
pub mod Steps
pub mod Varints
