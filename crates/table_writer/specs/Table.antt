-- A stripe of a table, and what its readers find. Source: Apache ORC specification v1, "Stripes" and "Stripe Footer".
use Rattle.std.specs.Prelude.{◌≡◌, ℕ, List, ◌++◌, length}
use Rattle.orc_tail.specs.declared.stripe.Stripe.{Stripe}
use Rattle.orc_tail.specs.Tail.{stripe_end}
use Rattle.orc_values.specs.Column.{RowValues}
use Rattle.orc_streams.specs.declared.layout.ReadColumn.{ReadColumn}
use Rattle.orc_rows.specs.Rows.{StripeHas}
use Rattle.tail_writer.specs.declared.file_column.FileColumn.{FileColumn}
use Rattle.table_columns.specs.declared.table_column.Content.{Content}
use Rattle.table_columns.specs.declared.table_column.Content.TheVariants.{Written, Opaque}
use Rattle.table_columns.specs.declared.table_column.TableColumn.{TableColumn}
use Rattle.table_columns.specs.Shapes.{IsSpelled, AreRead}
use Rattle.table_columns.specs.Tables.{shape_by, shapes_of, rows_of, HasCount, AreChildren}
use Rattle.table_columns.specs.Files.{HasFooter}

-- its streams are its own and its children's
abbrev pub HasOwnStreams : FileColumn → Content → Type 0
HasOwnStreams column (Written buffer) = Unit {0}
HasOwnStreams column (Opaque streams) = AreChildren (length column.children.items) streams.items

-- a column of so many rows, of a kind that is spelled as it says; or one whose streams are its own
pub record IsColumnOf (rows : ℕ) (c : TableColumn) : Type 0 where
  pub counted : HasCount rows c.content
  pub spelled : IsSpelled (shape_by c.column c.content)
  pub streams : HasOwnStreams c.column c.content

-- Behind the bytes before stands a stripe of that many rows, and nothing else; and whatever follows, its footer is read, with the
-- encodings and the streams of each column, and those that are written, whichever are read and in whatever order, have their rows.
pub record HasTable (before after : List ℕ) (stripe : Stripe) (columns : List TableColumn) (rows : ℕ) : Type 0 where
  pub added : List ℕ
  pub joined : after ≡ before ++ added
  pub begins : stripe.at ≡ length before
  pub ends : stripe_end stripe ≡ length after
  pub counted : stripe.rows ≡ rows
  pub footer_is : (back : List ℕ) → HasFooter (after ++ back) stripe (shapes_of columns)
  pub has : (back : List ℕ) (read : List ReadColumn) (values : List RowValues) → AreRead (shapes_of columns) (rows_of columns) read values
      → StripeHas (after ++ back) stripe read values
