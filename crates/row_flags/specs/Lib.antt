pub mod Decoders
pub mod Flags
pub mod FollowingLaws
pub mod Optional
pub mod OptionalLaws
pub mod Present
