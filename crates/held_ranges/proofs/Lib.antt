pub mod Holding
pub mod Grips
pub mod Gets
pub mod Rooms
pub mod Counting
pub mod CountedSteps
