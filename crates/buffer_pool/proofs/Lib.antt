pub mod First
pub mod Bids
pub mod Holds
pub mod Contents
pub mod ArenaBlocks
