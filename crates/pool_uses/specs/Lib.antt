pub mod Evictions
pub mod Sharing
