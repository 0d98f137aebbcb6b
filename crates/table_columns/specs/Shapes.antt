-- What the columns of a table are, whichever rows they have: those whose rows are written, in a spelling, and those whose streams
-- nobody reads.
--
-- Source: Apache ORC specification v1, "Types" and "Column Encodings". That a column that isn't read has its streams from the
-- caller, the same in every stripe, is this project's own.
use Rattle.std.specs.Prelude.{◌≡◌, ℕ, ◌⊎◌, List, [], ◌∷◌, Some}
use Rattle.orc_values.specs.declared.value.Value.{Value}
use Rattle.orc_values.specs.Column.{RowValues}
use Rattle.orc_columns.specs.declared.spelling.Spelling.{Spelling}
use Rattle.orc_columns.specs.declared.spelling.Spelling.TheVariants.{Bits, Integers, Texts, Dictionary}
use Rattle.orc_columns.specs.declared.spelling.Version.{Version}
use Rattle.orc_columns.specs.declared.spelling.Version.TheVariants.{One, Two}
use Rattle.orc_columns.specs.Spelling.{spelling_of}
use Rattle.orc_streams.specs.declared.layout.ReadColumn.{ReadColumn}
use Rattle.orc_batches.specs.Batch.{Batch}
use Rattle.tail_writer.specs.declared.file_column.FileColumn.{FileColumn}
use Rattle.tail_writer.specs.Columns.{next_number}
use Rattle.column_writer.specs.Buffered.{MayStand}
use Rattle.table_columns.specs.declared.table_column.OpaqueStream.{OpaqueStream}

-- A column: its name, kind and children, and how its rows are spelled, or its streams.
pub data Shape : Type 0 where
  written : FileColumn → Spelling → Shape
  opaque : FileColumn → List OpaqueStream → Shape

abbrev pub file_column : Shape → FileColumn
file_column (written column spelling) = column
file_column (opaque column streams) = column

-- the number of the type behind those of columns, of which the first has that number
abbrev pub next_of : ℕ → List Shape → ℕ
next_of number [] = number
next_of number (shape ∷ shapes) = next_of (next_number number (file_column shape)) shapes

-- ---- encodings

-- DIRECT and DIRECT_V2
abbrev pub direct : Version → ℕ
direct One = 0
direct Two = 2

-- DICTIONARY and DICTIONARY_V2
abbrev pub by_dictionary : Version → ℕ
by_dictionary One = 1
by_dictionary Two = 3

-- the number of the encoding that spells values so
abbrev pub encoding_number : Spelling → ℕ
encoding_number Bits = 0
encoding_number (Integers version) = direct version
encoding_number (Texts version) = direct version
encoding_number (Dictionary version) = by_dictionary version

-- a column's kind has the encoding by which it is spelled, and it has no children
abbrev pub IsSpelled : Shape → Type 0
IsSpelled (written column spelling) =
    (spelling_of column.kind (Some (encoding_number spelling)) ≡ Some spelling) × (column.children.items ≡ [])
IsSpelled (opaque column streams) = Unit {0}

-- ---- rows

-- a row has a value for each column that is written, null or of the column's kind
abbrev pub RowFits : List Shape → List Value → Type 0
RowFits [] [] = Unit {0}
RowFits [] (value ∷ row) = ⊥
RowFits (written column spelling ∷ shapes) [] = ⊥
RowFits (written column spelling ∷ shapes) (value ∷ row) = MayStand spelling value × RowFits shapes row
RowFits (opaque column streams ∷ shapes) row = RowFits shapes row

-- ---- what is read. The columns are numbered in order, each in front of its children, of which the first has a given number.

-- the column that is read has that number and that kind
abbrev pub IsNumbered : ℕ → FileColumn → ReadColumn → Type 0
IsNumbered number column read = (read.number ≡ number) × (read.kind ≡ column.kind)

-- The column that is read is one of those that are written, and these are its values in the batch.
abbrev pub IsRead : ℕ → List Shape → Batch → ReadColumn → RowValues → Type 0
IsRead number [] batch read values = ⊥
IsRead number (written column spelling ∷ shapes) [] read values = ⊥
IsRead number (written column spelling ∷ shapes) (rows ∷ batch) read values =
    (IsNumbered number column read × (values ≡ rows)) ⊎ IsRead (next_number number column) shapes batch read values
IsRead number (opaque column streams ∷ shapes) batch read values = IsRead (next_number number column) shapes batch read values

-- so is each, in any order; the root is the type of number 0, and the first column that of number 1
abbrev pub AreRead : List Shape → Batch → List ReadColumn → List RowValues → Type 0
AreRead shapes batch [] [] = Unit {0}
AreRead shapes batch [] (values ∷ others) = ⊥
AreRead shapes batch (column ∷ read) [] = ⊥
AreRead shapes batch (column ∷ read) (values ∷ others) = IsRead 1 shapes batch column values × AreRead shapes batch read others
