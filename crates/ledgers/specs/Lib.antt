pub mod CacheTotals
pub mod Text
