-- The rows of a file, by the columns that are read: those of its stripes, joined in order; or the least stripe that fails, its
-- footer before its columns, and these in their order.
--
-- Source: Apache ORC specification v1, "File Structure". That without a column to read no footer is looked at, and which fault
-- counts, are this project's own.
use Rattle.std.specs.Prelude.{◌≡◌, ℕ, ◌+◌, List, [], ◌∷◌, length, Ok, Err}
use Rattle.orc_values.specs.Column.{RowValues}
use Rattle.orc_columns.specs.declared.fault.ColumnFault.{ColumnFault}
use Rattle.orc_columns.specs.Column.{IsColumn, Fails}
use Rattle.orc_tail.specs.declared.fault.TailFault.{TailFault}
use Rattle.orc_tail.specs.declared.stripe.Stripe.{Stripe}
use Rattle.orc_tail.specs.declared.stripe_footer.StripeFooter.{StripeFooter}
use Rattle.orc_tail.specs.StripeFooter.{stripe_footer}
use Rattle.orc_streams.specs.declared.layout.ColumnLayout.{ColumnLayout}
use Rattle.orc_streams.specs.declared.layout.ReadColumn.{ReadColumn}
use Rattle.orc_streams.specs.Layout.{layout_in, streams_in, plan_at}
use Rattle.orc_rows.specs.declared.fault.RowsFault.{RowsFault}
use Rattle.orc_rows.specs.declared.fault.RowsFault.TheVariants.{BrokenFooter, BrokenColumn}
use Rattle.orc_batches.specs.Batch.{Batch, behind}
use Rattle.orc_rows.specs.Given.{no_rows}

-- Rows: how many, and the values of each column.
pub record Rows : Type 0 where
  pub count : ℕ
  pub columns : Batch

-- ---- a column of a stripe. Which numbers its streams have in a feed means nothing.

-- these are its values, in so many rows
pub record HasValues (file : List ℕ) (layout : ColumnLayout) (rows : ℕ) (values : RowValues) : Type 0 where
  pub column : IsColumn (plan_at 0 layout) (streams_in file layout) values
  pub count : length values ≡ rows

-- in so many rows this is the first condition that refuses it
abbrev pub HasFault : List ℕ → ColumnLayout → ℕ → ColumnFault → Type 0
HasFault file layout rows fault = Fails (plan_at 0 layout) (streams_in file layout) rows fault

-- ---- the columns of a stripe, by its footer

-- each has these values
abbrev pub HaveValues : List ℕ → StripeFooter → ℕ → List ReadColumn → Batch → Type 0
HaveValues file footer rows [] [] = Unit {0}
HaveValues file footer rows [] (values ∷ others) = ⊥
HaveValues file footer rows (column ∷ columns) [] = ⊥
HaveValues file footer rows (column ∷ columns) (values ∷ others) =
    HasValues file (layout_in footer column) rows values × HaveValues file footer rows columns others

-- The first of them that fails has this number and this fault.
pub data FirstColumnFails (file : List ℕ) (footer : StripeFooter) (rows : ℕ) : List ReadColumn → ℕ → ColumnFault → Type 0 where
  here : {column : ReadColumn} {columns : List ReadColumn} {fault : ColumnFault} → HasFault file (layout_in footer column) rows fault
      → FirstColumnFails file footer rows (column ∷ columns) column.number fault
  later : {column : ReadColumn} {columns : List ReadColumn} {number : ℕ} {fault : ColumnFault} (values : RowValues)
      → HasValues file (layout_in footer column) rows values → FirstColumnFails file footer rows columns number fault
      → FirstColumnFails file footer rows (column ∷ columns) number fault

-- ---- a stripe

-- The values of its columns. Where no column is read its footer isn't looked at.
pub data StripeHas (file : List ℕ) (stripe : Stripe) : List ReadColumn → Batch → Type 0 where
  unread : StripeHas file stripe [] []
  by_footer : {column : ReadColumn} {columns : List ReadColumn} {values : Batch} (footer : StripeFooter)
      → stripe_footer file stripe ≡ Ok footer
      → HaveValues file footer stripe.rows (column ∷ columns) values → StripeHas file stripe (column ∷ columns) values

-- The stripe, which has that number, fails so.
pub data StripeFails (file : List ℕ) (number : ℕ) (stripe : Stripe) : List ReadColumn → RowsFault → Type 0 where
  at_footer : {column : ReadColumn} {columns : List ReadColumn} {fault : TailFault} → stripe_footer file stripe ≡ Err fault
      → StripeFails file number stripe (column ∷ columns) (BrokenFooter number fault)
  at_column : {column : ReadColumn} {columns : List ReadColumn} {which : ℕ} {fault : ColumnFault} (footer : StripeFooter)
      → stripe_footer file stripe ≡ Ok footer → FirstColumnFails file footer stripe.rows (column ∷ columns) which fault
      → StripeFails file number stripe (column ∷ columns) (BrokenColumn number which fault)

-- ---- the stripes

-- their rows, joined
pub data HaveRows (file : List ℕ) (columns : List ReadColumn) : List Stripe → Rows → Type 0 where
  none : HaveRows file columns [] (record { count = 0; columns = no_rows columns })
  next : {stripe : Stripe} {stripes : List Stripe} (values : Batch) (more : Rows) → StripeHas file stripe columns values
      → HaveRows file columns stripes more
      → HaveRows file columns (stripe ∷ stripes) (record { count = stripe.rows + more.count; columns = behind values more.columns })

-- The least of them that fails, where the first has that number, fails so.
pub data FirstFails (file : List ℕ) (columns : List ReadColumn) : ℕ → List Stripe → RowsFault → Type 0 where
  here : {number : ℕ} {stripe : Stripe} {stripes : List Stripe} {fault : RowsFault} → StripeFails file number stripe columns fault
      → FirstFails file columns number (stripe ∷ stripes) fault
  later : {number : ℕ} {stripe : Stripe} {stripes : List Stripe} {fault : RowsFault} (values : Batch)
      → StripeHas file stripe columns values
      → FirstFails file columns (number + 1) stripes fault → FirstFails file columns number (stripe ∷ stripes) fault
