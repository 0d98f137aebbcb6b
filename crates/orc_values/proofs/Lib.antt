mod Choosing
mod ColumnRows
mod Counts
mod Places
