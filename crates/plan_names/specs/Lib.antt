pub mod Columns
pub mod Sources
