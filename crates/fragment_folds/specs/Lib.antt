pub mod Scans
pub mod Folding
pub mod Merging
