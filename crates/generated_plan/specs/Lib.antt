pub mod Text
pub mod Fragments
pub mod Laws
