pub mod Block
pub mod Buddy
pub mod Window
pub mod Words
pub mod Sets
pub mod Candidates
pub mod Laws
