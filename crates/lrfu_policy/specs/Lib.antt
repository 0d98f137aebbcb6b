pub mod Rank
pub mod Victim
pub mod Policy
pub mod Tournament
pub mod Laws
