-- A column that nobody reads among others. Source: this project's own.
use Rattle.std.specs.Prelude.{◌≡◌, ℕ, Bool, true, false, List}
use Rattle.std.specs.List.{insert}
use Rattle.table_columns.specs.declared.table_column.Content.{Content}
use Rattle.table_columns.specs.declared.table_column.Content.TheVariants.{Written, Opaque}
use Rattle.table_columns.specs.declared.table_column.TableColumn.{TableColumn}
use Rattle.table_columns.specs.Shapes.{Shape}
use Rattle.table_columns.specs.Tables.{shapes_of}
use Rattle.orc_writer.specs.Given.{placed_before}

abbrev pub is_written : Content → Bool
is_written (Written buffer) = true
is_written (Opaque streams) = false

-- a column goes to this place
abbrev pub IsPlace : ℕ → List TableColumn → ℕ → Type 0
IsPlace before columns at = (shape : Shape) → placed_before before shape (shapes_of columns) ≡ insert (shapes_of columns) at shape

-- the columns, and one more at its place
pub record IsInserted (before : ℕ) (column : TableColumn) (old new : List TableColumn) : Type 0 where
  pub at : ℕ
  pub new_is : new ≡ insert old at column
  pub place : IsPlace before old at
