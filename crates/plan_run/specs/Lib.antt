pub mod Words
pub mod Reading
pub mod Run
pub mod Steps
pub mod Merges
pub mod Output
pub mod Laws
pub mod Scanned
