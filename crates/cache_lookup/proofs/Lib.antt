pub mod Keeping
pub mod Walks
pub mod Showing
pub mod Knowing
