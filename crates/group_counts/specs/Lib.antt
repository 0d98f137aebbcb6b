pub mod Order
pub mod Tally
pub mod Entries
pub mod Slots
pub mod EntryCounts
