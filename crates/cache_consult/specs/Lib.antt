pub mod Consults
pub mod Leaving
pub mod LeavingLaws
