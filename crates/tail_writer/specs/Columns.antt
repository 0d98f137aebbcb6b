-- The types of columns, numbered in order from the root on, which is 0, each column's in front of its children's.
-- Source: Apache ORC specification v1, "Type Information".
use Rattle.std.specs.Prelude.{ℕ, ◌+◌, List, [], ◌∷◌, ◌++◌, length, map}
use Rattle.std.specs.List.{range_with_len}
use Rattle.orc_tail.specs.declared.columns.TopColumn.{TopColumn}
use Rattle.orc_tail.specs.Messages.{TypeMessage}
use Rattle.tail_writer.specs.declared.file_column.FileColumn.{FileColumn}

-- a type without children
abbrev pub leaf : ℕ → TypeMessage
leaf kind = record { kind = kind; subtypes = []; names = [] }

-- the types of a column that has that number, and of its children
abbrev pub column_types : ℕ → FileColumn → List TypeMessage
column_types number column =
    record { kind = column.kind; subtypes = range_with_len (number + 1) (length column.children.items); names = [] }
    ∷ map leaf column.children.items

-- the number of the column behind one that has that number
abbrev pub next_number : ℕ → FileColumn → ℕ
next_number number column = number + 1 + length column.children.items

-- the types of columns, of which the first has that number
abbrev pub types_from : ℕ → List FileColumn → List TypeMessage
types_from number [] = []
types_from number (column ∷ columns) = column_types number column ++ types_from (next_number number column) columns

-- the numbers of the columns
abbrev pub numbers_from : ℕ → List FileColumn → List ℕ
numbers_from number [] = []
numbers_from number (column ∷ columns) = number ∷ numbers_from (next_number number column) columns

-- the types of a file: the root is a STRUCT, whose kind is 12, of the columns
abbrev pub types_of : List FileColumn → List TypeMessage
types_of columns = record { kind = 12; subtypes = numbers_from 1 columns; names = map (λ c. c.name) columns } ∷ types_from 1 columns

-- the columns as a reader sees them, each with its type's number, kind and name
abbrev pub top_columns_from : ℕ → List FileColumn → List TopColumn
top_columns_from number [] = []
top_columns_from number (column ∷ columns) =
    record { number = number; kind = column.kind; name = column.name } ∷ top_columns_from (next_number number column) columns
