pub mod Reading
pub mod Messages
pub mod Tail
pub mod StripeFooter
pub mod Views
pub mod Reads
pub mod Laws
