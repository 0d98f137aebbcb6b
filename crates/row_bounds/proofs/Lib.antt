mod ColumnRows
mod EachColumn
mod ManyRows
mod RunLengths
mod SpelledBytes
mod StripeRows
