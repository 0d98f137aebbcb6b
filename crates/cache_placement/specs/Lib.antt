pub mod Free
pub mod Asking
pub mod Publications
pub mod Exact
pub mod Placements
pub mod Steps
