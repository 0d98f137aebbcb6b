pub mod Evictors
pub mod Needs
pub mod Fetches
pub mod Victims
