-- Streams that a stripe may lack, as the crate of flags has them.
pub use Rattle.row_flags.specs.Optional.{rest_in, AllIn}
