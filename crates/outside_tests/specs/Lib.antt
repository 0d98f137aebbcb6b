pub mod ToldFiles
pub mod ToldWorld
pub mod TwoNames
