-- What a writer holds. Source: this project's own, over the definitions of the readers.
use Rattle.std.specs.Prelude.{◌≡◌, ℕ, ◌+◌, ◌<◌, ◌≤◌, ◌^◌, List, [], ◌∷◌, ◌++◌, length, take, All, Option, Result, Ok, Err}
use Rattle.outside.specs.Told.{Extended}
use Rattle.orc_tail.specs.declared.stripe.Stripe.{Stripe}
use Rattle.orc_tail.specs.Tail.{stripe_end}
use Rattle.orc_values.specs.Column.{RowValues}
use Rattle.orc_values.specs.declared.value.Value.{Value}
use Rattle.orc_streams.specs.declared.layout.ReadColumn.{ReadColumn}
use Rattle.orc_batches.specs.Batch.{behind}
use Rattle.orc_rows.specs.Rows.{Rows, HaveRows}
use Rattle.table_columns.specs.declared.table_column.TableColumn.{TableColumn}
use Rattle.table_columns.specs.Shapes.{Shape, AreRead}
use Rattle.table_columns.specs.Tables.{shapes_of, rows_of}
use Rattle.table_writer.specs.Table.{IsColumnOf}
use Rattle.orc_writer.specs.declared.fault.MakeFault.{MakeFault}
use Rattle.orc_writer.specs.declared.fault.MakeFault.TheVariants.{Write, NoMemory}
use Rattle.orc_writer.specs.Given.{and_row}
use Rattle.table_columns.specs.Files.{HasFooter, IsFile}

-- A file so far: its bytes and the stripes in them, the columns with the rows that wait for a stripe, how many these are and how
-- many a stripe has, and how many rows were pushed.
pub record Writing : Type 0 where
  pub bytes : List ℕ
  pub stripes : List Stripe
  pub columns : List TableColumn
  pub waiting : ℕ
  pub stripe_rows : ℕ
  pub pushed : ℕ

abbrev pub shapes : Writing → List Shape
shapes w = shapes_of w.columns

-- no row was pushed
abbrev pub IsFresh : Writing → Type 0
IsFresh w = (w.stripes ≡ []) × (w.pushed ≡ 0)

-- Whatever follows the bytes, the stripes in them have these rows, whichever columns are read, and the streams that nobody reads.
pub record AreThere (bytes : List ℕ) (stripes : List Stripe) (columns : List Shape) (rows : Rows) : Type 0 where
  pub ends : All (λ stripe. stripe_end stripe ≤ length bytes) stripes
  pub has : (back : List ℕ) (read : List ReadColumn) (values : List RowValues) → AreRead columns rows.columns read values
      → HaveRows (bytes ++ back) read stripes (record { count = rows.count; columns = values })
  pub footers : (back : List ℕ) → All (λ stripe. HasFooter (bytes ++ back) stripe columns) stripes

-- no rows of any column
pub record IsNone (rows : Rows) : Type 0 where
  pub count : rows.count ≡ 0
  pub columns : All (λ column. column ≡ []) rows.columns

-- The writer holds these rows: some stand in its stripes, and behind them come those that wait.
pub record Holds (w : Writing) (rows : Rows) : Type 0 where
  pub before : Rows
  pub there : AreThere w.bytes w.stripes (shapes w) before
  pub are : rows ≡ record { count = before.count + w.waiting; columns = behind before.columns (rows_of w.columns) }
  pub counted : w.pushed ≡ rows.count
  pub begun : w.stripes ≡ [] → IsNone before

-- the same columns and rows; where no row was pushed, none is
pub record IsSame (before after : Writing) : Type 0 where
  pub shapes_are : shapes after ≡ shapes before
  pub stripe_rows_are : after.stripe_rows ≡ before.stripe_rows
  pub pushed_is : after.pushed ≡ before.pushed
  pub fresh : IsFresh before → IsFresh after
  pub holds : (rows : Rows) → Holds before rows → Holds after rows

-- what a writer makes is a file of the rows that it holds
abbrev pub IsMade : Writing → List ℕ → Type 0
IsMade w file = (rows : Rows) → Holds w rows → IsFile (shapes w) w.stripe_rows rows file

-- what is true of a writer
pub record IsWriter (w : Writing) : Type 0 where
  pub begun : (rest : List ℕ) × (w.bytes ≡ 0x4F ∷ 0x52 ∷ 0x43 ∷ rest)
  pub full : All (λ stripe. stripe.rows ≡ w.stripe_rows) w.stripes
  pub room : w.waiting ≤ w.stripe_rows
  pub counted : w.waiting ≤ w.pushed
  pub some : 0 < w.stripe_rows
  pub few : w.stripe_rows < 2 ^ 32
  pub columns : All (IsColumnOf w.waiting) w.columns

-- a row more
pub record Pushes (before : Writing) (row : List Value) (after : Writing) : Type 0 where
  pub shapes_are : shapes after ≡ shapes before
  pub stripe_rows_are : after.stripe_rows ≡ before.stripe_rows
  pub holds : (rows : Rows) → Holds before rows → Holds after (and_row rows row)

-- the write failed
abbrev pub IsWrite : Result (Unit {0}) MakeFault → Type 0
IsWrite (Ok done) = ⊥
IsWrite (Err (Write failed)) = Unit {0}
IsWrite (Err NoMemory) = ⊥

-- What was written: the whole file; a front of it where a write failed; nothing where memory was refused.
abbrev pub Wrote : Writing → Option (List ℕ) → Option (List ℕ) → Result (Unit {0}) MakeFault → Type 0
Wrote w before after (Ok done) = (file : List ℕ) × IsMade w file × Extended before after file
Wrote w before after (Err (Write failed)) =
    (file : List ℕ) × (n : ℕ) × IsMade w file × (n ≤ length file) × Extended before after (take n file)
Wrote w before after (Err NoMemory) = after ≡ before
