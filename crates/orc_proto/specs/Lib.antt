pub mod Varint
pub mod Message
pub mod Reading
pub mod Laws
pub mod OneVarint
