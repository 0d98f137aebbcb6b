pub mod Pieces
pub mod Lines
pub mod Words
pub mod Names
pub mod Faults
pub mod Reading
pub mod Literals
pub mod Steps
