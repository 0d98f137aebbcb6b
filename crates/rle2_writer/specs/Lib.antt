pub mod Entries
pub mod Packs
