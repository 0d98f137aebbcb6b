mod Entries
mod Gathering
mod Masks
mod Numbers
mod Passing
pub mod Dense
