mod EachColumn
mod LeftAlone
mod Walking
mod WholeColumns
