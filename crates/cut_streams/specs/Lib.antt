pub mod Visits
pub mod Streams
pub mod Went
