mod EmptyScans
mod NamedColumns
