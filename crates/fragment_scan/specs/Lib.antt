pub mod Outcomes
pub mod Scanned
