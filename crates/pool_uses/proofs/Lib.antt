pub mod Composing
pub mod Evicting
