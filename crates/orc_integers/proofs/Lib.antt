pub mod Lanes
pub mod Numbers
