-- The columns of a table with the rows that wait to be written. Source: this project's own.
use Rattle.std.specs.Prelude.{◌≡◌, ℕ, ◌<◌, ◌≤◌, List, [], ◌∷◌, length, All}
use Rattle.orc_values.specs.declared.value.Value.{Value}
use Rattle.orc_batches.specs.Batch.{Batch}
use Rattle.tail_writer.specs.declared.file_column.FileColumn.{FileColumn}
use Rattle.column_writer.specs.Buffered.{MayStand, and_row as and_value}
use Rattle.table_columns.specs.declared.table_column.Content.{Content}
use Rattle.table_columns.specs.declared.table_column.Content.TheVariants.{Written, Opaque}
use Rattle.table_columns.specs.declared.table_column.TableColumn.{TableColumn}
use Rattle.table_columns.specs.declared.table_column.OpaqueStream.{OpaqueStream}
use Rattle.table_columns.specs.Shapes.{Shape, written, opaque}

-- what a column is, whichever rows it has
abbrev pub shape_by : FileColumn → Content → Shape
shape_by column (Written buffer) = written column buffer.spelling
shape_by column (Opaque streams) = opaque column streams.items

abbrev pub shapes_of : List TableColumn → List Shape
shapes_of [] = []
shapes_of (c ∷ columns) = shape_by c.column c.content ∷ shapes_of columns

-- the rows of the columns that are written, beside each other
abbrev pub rows_with : Content → Batch → Batch
rows_with (Written buffer) batch = buffer.rows ∷ batch
rows_with (Opaque streams) batch = batch

abbrev pub rows_of : List TableColumn → Batch
rows_of [] = []
rows_of (c ∷ columns) = rows_with c.content (rows_of columns)

-- so many rows stand in a column that is written
abbrev pub HasCount : ℕ → Content → Type 0
HasCount rows (Written buffer) = length buffer.rows ≡ rows
HasCount rows (Opaque streams) = Unit {0}

abbrev pub IsCounted : ℕ → TableColumn → Type 0
IsCounted rows c = HasCount rows c.content

-- ---- a row more

-- a column with its value of a row, if it takes one, and what is left of the row
abbrev pub content_with : Content → List Value → Content
content_with (Written buffer) [] = Written buffer
content_with (Written buffer) (value ∷ row) = Written (and_value buffer value)
content_with (Opaque streams) row = Opaque streams

abbrev pub rest_for : Content → List Value → List Value
rest_for (Written buffer) [] = []
rest_for (Written buffer) (value ∷ row) = row
rest_for (Opaque streams) row = row

-- columns, each that is written with its value of a row more
abbrev pub with_row : List TableColumn → List Value → List TableColumn
with_row [] row = []
with_row (c ∷ columns) row = record { column = c.column; content = content_with c.content row } ∷ with_row columns (rest_for c.content row)

-- the values of a row, a list of one for each column
abbrev pub as_batch : List Value → Batch
as_batch [] = []
as_batch (value ∷ row) = (value ∷ []) ∷ as_batch row

-- ---- no rows

abbrev pub emptied : Content → Content
emptied (Written buffer) = Written (record { spelling = buffer.spelling; rows = [] })
emptied (Opaque streams) = Opaque streams

-- columns without rows
abbrev pub without_rows : List TableColumn → List TableColumn
without_rows [] = []
without_rows (c ∷ columns) = record { column = c.column; content = emptied c.content } ∷ without_rows columns

-- ---- a value given, and taken back

-- the row has a value for this column, if it takes one
abbrev pub TakesFrom : Content → List Value → Type 0
TakesFrom (Written buffer) [] = ⊥
TakesFrom (Written buffer) (value ∷ row) = MayStand buffer.spelling value
TakesFrom (Opaque streams) row = Unit {0}

-- a column that is written has a row
abbrev pub HasRow : Content → Type 0
HasRow (Written buffer) = 0 < length buffer.rows
HasRow (Opaque streams) = Unit {0}

-- its last row is gone
abbrev pub IsTaken : Content → Content → Type 0
IsTaken (Written before) (Written after) = (last : Value) × (before ≡ and_value after last)
IsTaken (Written before) (Opaque streams) = ⊥
IsTaken (Opaque streams) (Written after) = ⊥
IsTaken (Opaque before) (Opaque after) = before ≡ after

-- ---- streams that nobody reads

-- each is of the column itself, or of one of so many children
abbrev pub AreChildren : ℕ → List OpaqueStream → Type 0
AreChildren children streams = All (λ s. s.child ≤ children) streams
