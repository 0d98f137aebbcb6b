pub mod Folding
pub mod Wholes
pub mod Parts
pub mod PostScripts
