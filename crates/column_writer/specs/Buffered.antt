-- The rows of a column that are to be written. Source: this project's own.
use Rattle.std.specs.Prelude.{◌≡◌, List, [], ◌∷◌, ◌++◌, Some}
use Rattle.orc_values.specs.declared.value.Value.{Value}
use Rattle.orc_values.specs.declared.value.Value.TheVariants as value
use Rattle.orc_columns.specs.declared.plan.ColumnPlan.{ColumnPlan}
use Rattle.orc_columns.specs.declared.spelling.Spelling.{Spelling}
use Rattle.orc_columns.specs.declared.spelling.Spelling.TheVariants.{Bits, Integers, Texts, Dictionary}
use Rattle.orc_columns.specs.Column.{IsColumn}
use Rattle.orc_columns.specs.Spelling.{spelling_of}
use Rattle.column_writer.specs.declared.encoded.Encoded.{Encoded}
use Rattle.column_writer.specs.Encoded.{streams_of}

-- Rows of one column, and how they are to be spelled.
pub record Buffered : Type 0 where
  pub spelling : Spelling
  pub rows : List Value

-- a value that a column of this spelling has, and that isn't null
abbrev pub IsOf : Spelling → Value → Type 0
IsOf Bits (value.Bool b) = Unit {0}
IsOf Bits value.Null = ⊥
IsOf Bits (value.Int n) = ⊥
IsOf Bits (value.Text t) = ⊥
IsOf (Integers version) (value.Int n) = Unit {0}
IsOf (Integers version) value.Null = ⊥
IsOf (Integers version) (value.Bool b) = ⊥
IsOf (Integers version) (value.Text t) = ⊥
IsOf (Texts version) (value.Text t) = Unit {0}
IsOf (Texts version) value.Null = ⊥
IsOf (Texts version) (value.Bool b) = ⊥
IsOf (Texts version) (value.Int n) = ⊥
IsOf (Dictionary version) (value.Text t) = Unit {0}
IsOf (Dictionary version) value.Null = ⊥
IsOf (Dictionary version) (value.Bool b) = ⊥
IsOf (Dictionary version) (value.Int n) = ⊥

-- a value that may stand in a row of it
abbrev pub MayStand : Spelling → Value → Type 0
MayStand spelling value.Null = Unit {0}
MayStand spelling (value.Bool b) = IsOf spelling (value.Bool b)
MayStand spelling (value.Int n) = IsOf spelling (value.Int n)
MayStand spelling (value.Text t) = IsOf spelling (value.Text t)

-- the rows, and one more
abbrev pub and_row : Buffered → Value → Buffered
and_row buffered row = record buffered { rows = buffered.rows ++ row ∷ [] }

-- By any plan of this spelling, with as many entries of the dictionary, these streams have just these rows.
abbrev pub HasRows : Buffered → Encoded → Type 0
HasRows buffered e = (plan : ColumnPlan) → spelling_of plan.kind plan.encoding ≡ Some buffered.spelling
    → plan.dictionary_size ≡ e.dictionary_size → IsColumn plan (streams_of e) buffered.rows

-- a value for each column, that may stand in it
abbrev pub AllMayStand : List Buffered → List Value → Type 0
AllMayStand [] [] = Unit {0}
AllMayStand [] (value ∷ row) = ⊥
AllMayStand (column ∷ columns) [] = ⊥
AllMayStand (column ∷ columns) (value ∷ row) = MayStand column.spelling value × AllMayStand columns row

-- columns, each with its value of a row more
abbrev pub and_rows : List Buffered → List Value → List Buffered
and_rows [] row = []
and_rows (column ∷ columns) [] = column ∷ columns
and_rows (column ∷ columns) (value ∷ row) = and_row column value ∷ and_rows columns row
