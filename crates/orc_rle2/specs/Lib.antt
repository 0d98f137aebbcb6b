pub mod Header
pub mod Integers
pub mod IntRun2
pub mod Packed
pub mod Patches
pub mod Widths
