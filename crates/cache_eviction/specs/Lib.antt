pub mod Evictions
pub mod Order
pub mod OrderLaws
pub mod Victims
