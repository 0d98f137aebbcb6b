pub mod Naming
pub mod Numbered
pub mod Placing
pub mod ReadOnce
