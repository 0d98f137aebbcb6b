pub mod Places
pub mod Merges
pub mod Firsts
pub mod Begun
pub mod Quiet
pub mod ShortPlans
pub mod Sending
pub mod Stepping
