pub mod Rows
pub mod Orders
pub mod Joining
pub mod Named
