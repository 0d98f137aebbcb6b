-- The laws of bounds, which this crate's law functions carry. Source: this project's own.
use Rattle.std.specs.Prelude.{◌≡◌, ℕ, ◌*◌, ◌^◌, ◌<◌, ◌≤◌, List, length, Some, Ok}
use Rattle.orc_values.specs.Column.{RowValues}
use Rattle.orc_columns.specs.declared.plan.ColumnPlan.{ColumnPlan}
use Rattle.orc_columns.specs.declared.spelling.Spelling.{Spelling}
use Rattle.orc_columns.specs.Column.{Streams, IsColumn}
use Rattle.orc_columns.specs.Spelling.{spelling_of}
use Rattle.orc_tail.specs.declared.stripe.Stripe.{Stripe}
use Rattle.orc_tail.specs.declared.tail.Tail.{Tail}
use Rattle.orc_tail.specs.Tail.{greatest_len, most_stripes, tail}
use Rattle.orc_streams.specs.declared.layout.ReadColumn.{ReadColumn}
use Rattle.orc_batches.specs.Batch.{Batch}
use Rattle.orc_rows.specs.Rows.{Rows, StripeHas, HaveRows}
use Rattle.row_bounds.specs.Bounds.{AreBytes, most_rows_a_byte, most_rows_a_stripe, rows_stream, AreRows}

-- a column's rows are no more than the stream that each row needs something of has bytes for
abbrev pub ColumnsAreBounded : Type 0
ColumnsAreBounded = (plan : ColumnPlan) (s : Streams) (rows : RowValues) (spelling : Spelling)
    → AreBytes s.present → AreBytes s.body → AreBytes s.lengths → spelling_of plan.kind plan.encoding ≡ Some spelling
    → IsColumn plan s rows → length rows ≤ most_rows_a_byte * length (rows_stream spelling s)

-- a stripe's rows, where a column is read
abbrev pub StripesAreBounded : Type 0
StripesAreBounded = (bytes : List ℕ) (stripe : Stripe) (columns : List ReadColumn) (values : Batch)
    → AreBytes bytes → 0 < length columns → length bytes ≤ greatest_len → StripeHas bytes stripe columns values
    → stripe.rows ≤ most_rows_a_stripe

-- those of all stripes
abbrev pub StripesTogether : Type 0
StripesTogether = (bytes : List ℕ) (columns : List ReadColumn) (stripes : List Stripe) (rows : Rows)
    → AreBytes bytes → 0 < length columns → length bytes ≤ greatest_len → HaveRows bytes columns stripes rows
    → rows.count ≤ length stripes * most_rows_a_stripe

-- of as many stripes as a tail may have
abbrev pub FilesAreBounded : Type 0
FilesAreBounded = (bytes : List ℕ) (columns : List ReadColumn) (stripes : List Stripe) (rows : Rows)
    → AreBytes bytes → 0 < length columns → length bytes ≤ greatest_len → length stripes ≤ most_stripes
    → HaveRows bytes columns stripes rows → rows.count < 2 ^ 62

-- of the stripes of a file's tail
abbrev pub TailsAreBounded : Type 0
TailsAreBounded = (bytes : List ℕ) (read : Tail) (columns : List ReadColumn) (rows : Rows)
    → AreBytes bytes → 0 < length columns → tail bytes ≡ Ok read → HaveRows bytes columns read.stripes rows
    → rows.count < 2 ^ 62

-- the rows of a stripe, column by column
abbrev pub AStripeIsInEachColumn : Type 0
AStripeIsInEachColumn = (bytes : List ℕ) (stripe : Stripe) (columns : List ReadColumn) (values : Batch)
    → StripeHas bytes stripe columns values → AreRows stripe.rows values × (length values ≡ length columns)

-- and those of stripes
abbrev pub RowsAreInEachColumn : Type 0
RowsAreInEachColumn = (bytes : List ℕ) (columns : List ReadColumn) (stripes : List Stripe) (rows : Rows)
    → HaveRows bytes columns stripes rows → AreRows rows.count rows.columns × (length rows.columns ≡ length columns)
