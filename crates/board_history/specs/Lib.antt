pub mod Order
pub mod States
pub mod Legal
pub mod Totals
pub mod Histories
pub mod Victims
pub mod Laws
