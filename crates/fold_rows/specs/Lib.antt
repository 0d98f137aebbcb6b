pub mod States
pub mod Behind
