-- The pure pool: blocks, buffers, grants, the steps of seats, and the law that every run of them is lawful.
pub mod Block
pub mod Content
pub mod Buffer
pub mod Pool
pub mod Step
pub mod Lawful
pub mod Parts
pub mod Laws
pub mod Outcome
