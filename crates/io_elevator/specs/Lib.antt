pub mod Books
pub mod FittingLaws
pub mod Sound
pub mod SoundLaws
pub mod Scratch
pub mod Elevator
pub mod Laws
