pub mod AskedArenas
pub mod Blocks
pub mod Walks
pub mod Showing
pub mod Knowing
