pub mod Checks
pub mod Rows
pub mod Kept
pub mod Totals
pub mod KeptLaws
pub mod RowsLaws
