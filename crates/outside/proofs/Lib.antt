pub mod KnownBytes
pub mod Reading
pub mod Slices
pub mod Varint
