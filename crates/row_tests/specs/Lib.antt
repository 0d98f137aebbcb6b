pub mod StripeWorld
