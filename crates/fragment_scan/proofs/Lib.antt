pub mod Forms
pub mod Folded
pub mod Parts
pub mod Finding
