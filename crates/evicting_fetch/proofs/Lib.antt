pub mod Promises
pub mod Victims
