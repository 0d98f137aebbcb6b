pub mod Caches
pub mod Ranges
pub mod Exact
pub mod Fetches
pub mod Callers
