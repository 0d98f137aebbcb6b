pub mod Ending
pub mod Given
pub mod Making
pub mod Placing
pub mod Stripes
pub mod Writing
