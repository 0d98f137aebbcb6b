pub mod Batch
pub mod Batches
pub mod Laws
pub mod Walk
