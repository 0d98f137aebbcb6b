pub mod Deeds
pub mod Moments
pub mod Counts
