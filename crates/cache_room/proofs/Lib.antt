pub mod Trials
pub mod Walks
