pub mod AllPatches
pub mod Differences
pub mod Forms
pub mod PackedBits
pub mod PatchedRun
