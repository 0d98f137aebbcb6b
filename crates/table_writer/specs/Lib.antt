pub mod Stands
pub mod Table
