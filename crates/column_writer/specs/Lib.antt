pub mod Buffered
pub mod Encoded
