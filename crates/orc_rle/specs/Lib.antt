pub mod BitRun
pub mod ByteRun
pub mod Decoder
pub mod EmptyStream
pub mod IntRun1
pub use Rattle.outside.specs.Filling
pub use Rattle.outside.specs.Reading
pub use Rattle.outside.specs.Runs
