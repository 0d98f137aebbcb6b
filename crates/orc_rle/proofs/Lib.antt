pub mod BitRuns
pub mod ByteRunReader
pub mod EmptyStream
pub mod Given
pub mod Lists
pub mod RunReader
pub mod RunsIn
