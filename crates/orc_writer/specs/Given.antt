-- What is given to a writer. Source: Apache ORC specification v1, "Column Encodings".
use Rattle.std.specs.Prelude.{◌≡◌, ℕ, zero, suc, ◌+◌, List, [], ◌∷◌, Some}
use Rattle.orc_values.specs.declared.value.Value.{Value}
use Rattle.orc_columns.specs.declared.spelling.Spelling.{Spelling as Spelled}
use Rattle.orc_columns.specs.Spelling.{spelling_of}
use Rattle.orc_batches.specs.Batch.{behind}
use Rattle.orc_rows.specs.Given.{no_rows}
use Rattle.orc_rows.specs.Rows.{Rows}
use Rattle.table_columns.specs.Shapes.{Shape, written, opaque, encoding_number}
use Rattle.table_columns.specs.Tables.{as_batch}
use Rattle.orc_writer.specs.declared.column_spec.ColumnSpec.{ColumnSpec}
use Rattle.orc_writer.specs.declared.column_spec.Spelling.{Spelling}
use Rattle.orc_writer.specs.declared.column_spec.Spelling.TheVariants.{Direct, DirectV2, DictionaryV2}

-- the encoding's number
abbrev pub number_of : Spelling → ℕ
number_of Direct = 0
number_of DirectV2 = 2
number_of DictionaryV2 = 3

-- the column's kind has this encoding
abbrev pub IsSpec : ColumnSpec → Type 0
IsSpec c = (spelling : Spelled) × (spelling_of c.kind (Some (number_of c.spelling)) ≡ Some spelling)

-- a column by what was given, spelled as it was asked for
abbrev pub IsOfSpec : ColumnSpec → Shape → Type 0
IsOfSpec c (written column spelling) = (column.name ≡ c.name) × (column.kind ≡ c.kind) × (column.children.items ≡ [])
    × (spelling_of c.kind (Some (number_of c.spelling)) ≡ Some spelling) × (encoding_number spelling ≡ number_of c.spelling)
IsOfSpec c (opaque column streams) = ⊥

-- so is each, in order
abbrev pub AreOfSpecs : List ColumnSpec → List Shape → Type 0
AreOfSpecs [] [] = Unit {0}
AreOfSpecs [] (shape ∷ shapes) = ⊥
AreOfSpecs (c ∷ columns) [] = ⊥
AreOfSpecs (c ∷ columns) (shape ∷ shapes) = IsOfSpec c shape × AreOfSpecs columns shapes

-- how many columns are written
abbrev pub count_written : List Shape → ℕ
count_written [] = 0
count_written (written column spelling ∷ shapes) = 1 + count_written shapes
count_written (opaque column streams ∷ shapes) = count_written shapes

-- A column more, in front of the written column of that place, or last where there are no more of these, and behind the columns
-- that aren't read and stand there.
abbrev pub placed_before : ℕ → Shape → List Shape → List Shape
placed_before place shape [] = shape ∷ []
placed_before place shape (opaque column streams ∷ shapes) = opaque column streams ∷ placed_before place shape shapes
placed_before zero shape (written column spelling ∷ shapes) = shape ∷ written column spelling ∷ shapes
placed_before (suc place) shape (written column spelling ∷ shapes) = written column spelling ∷ placed_before place shape shapes

-- no rows yet of so many columns
abbrev pub none_of : {A : Type 0} → List A → Rows
none_of columns = record { count = 0; columns = no_rows columns }

-- rows, and one more
abbrev pub and_row : Rows → List Value → Rows
and_row rows row = record { count = rows.count + 1; columns = behind rows.columns (as_batch row) }
