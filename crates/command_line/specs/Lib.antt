pub mod Command
pub mod Options
pub mod Matches
pub mod Laws
pub mod Pages
