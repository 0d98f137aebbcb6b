pub mod Given
pub mod Giving
pub mod Judging
pub mod Laws
pub mod Rows
pub mod Starting
