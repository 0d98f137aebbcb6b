pub mod Layouts
pub mod Opening
pub mod Started
pub mod Stored
