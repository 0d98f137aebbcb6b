pub mod Numbers
pub mod Growing
pub mod Tails
