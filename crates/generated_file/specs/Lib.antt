pub mod Columns
pub mod File
pub mod Making
