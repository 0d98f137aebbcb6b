pub mod Promises
pub mod Loads
