pub mod Acts
pub mod Direct
pub mod Laws
pub mod Layout
pub mod Openings
pub mod Readable
pub mod StoredStreams
