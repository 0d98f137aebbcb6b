pub mod Stops
pub mod StripeWalk
