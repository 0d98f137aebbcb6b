pub mod Outs
pub mod Walking
