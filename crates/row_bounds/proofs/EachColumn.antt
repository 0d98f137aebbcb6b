-- The rows of stripes, column by column.
use Rattle.std.proofs.Common.{◌≡◌, ℕ, ◌+◌, List, [], ◌∷◌, ◌++◌, length, arith, length-append}
use Rattle.std.proofs.lemmas.List.Elements.{All-nil, All-cons, All-head, All-tail}
use Rattle.orc_values.specs.Column.{RowValues}
use Rattle.orc_tail.specs.declared.stripe.Stripe.{Stripe}
use Rattle.orc_tail.specs.declared.stripe_footer.StripeFooter.{StripeFooter}
use Rattle.orc_streams.specs.declared.layout.ReadColumn.{ReadColumn}
use Rattle.orc_batches.specs.Batch.{Batch, behind}
use Rattle.orc_rows.specs.Given.{no_rows}
use Rattle.orc_rows.specs.Rows.{Rows, HaveValues, StripeHas, HaveRows}
use Rattle.row_bounds.specs.Bounds.{AreRows}
use Rattle.row_bounds.specs.Laws.{AStripeIsInEachColumn, RowsAreInEachColumn}

-- so many columns, each of so many rows
record AreIn (columns rows : ℕ) (batch : Batch) : Type 0 where
  each : AreRows rows batch
  all : length batch ≡ columns

abbrev HasRows : ℕ → RowValues → Type 0
HasRows rows values = length values ≡ rows

no_rows_are : (columns : List ReadColumn) → AreIn (length columns) 0 (no_rows columns)
no_rows_are [] = record { each = All-nil (HasRows 0); all = omega arith }
no_rows_are (column ∷ columns) =
    let others = no_rows_are columns in
    let none : RowValues = [] in
    record { each = All-cons (HasRows 0) none (no_rows columns) (omega arith) others.each; all = omega (arith, others.all) }

behind_are : (columns rows more : ℕ) (front back : Batch) → AreIn columns rows front → AreIn columns more back → AreIn columns (rows + more) (behind front back)
behind_are columns rows more [] back a b = record { each = All-nil (HasRows (rows + more)); all = a.all }
behind_are columns rows more (values ∷ front) [] a b = absurd (omega (arith, a.all, b.all))
behind_are columns rows more (values ∷ front) (others ∷ back) a b =
    let rest = behind_are (length front) rows more front back
    (record { each = All-tail (HasRows rows) values front a.each; all = omega arith })
    (record { each = All-tail (HasRows more) others back b.each; all = omega (arith, a.all, b.all) }) in
    let first : length (values ++ others) ≡ rows + more =
    omega (arith, length-append values others, All-head (HasRows rows) values front a.each, All-head (HasRows more) others back b.each) in
    record { each = All-cons (HasRows (rows + more)) (values ++ others) (behind front back) first rest.each; all = omega (arith, rest.all, a.all) }

values_are : (file : List ℕ) (footer : StripeFooter) (rows : ℕ) (columns : List ReadColumn) (batch : Batch) → HaveValues file footer rows columns batch → AreIn (length columns) rows batch
values_are file footer rows [] [] have = record { each = All-nil (HasRows rows); all = omega arith }
values_are file footer rows [] (values ∷ batch) have = absurd have
values_are file footer rows (column ∷ columns) [] have = absurd have
values_are file footer rows (column ∷ columns) (values ∷ batch) have =
    let others = values_are file footer rows columns batch have.1 in
    record { each = All-cons (HasRows rows) values batch have.0.count others.each; all = omega (arith, others.all) }

stripe_is : (file : List ℕ) (stripe : Stripe) (columns : List ReadColumn) (batch : Batch) → StripeHas file stripe columns batch → AreIn (length columns) stripe.rows batch
stripe_is file stripe [] _ StripeHas.unread = record { each = All-nil (HasRows stripe.rows); all = omega arith }
stripe_is file stripe (column ∷ columns) batch (StripeHas.by_footer footer is have) = values_are file footer stripe.rows (column ∷ columns) batch have

rows_are : (file : List ℕ) (columns : List ReadColumn) (stripes : List Stripe) (rows : Rows) → HaveRows file columns stripes rows → AreIn (length columns) rows.count rows.columns
rows_are file columns [] _ HaveRows.none = no_rows_are columns
rows_are file columns (stripe ∷ stripes) _ (HaveRows.next values more has rest) =
    behind_are (length columns) stripe.rows more.count values more.columns (stripe_is file stripe columns values has) (rows_are file columns stripes more rest)

pub a_stripe_is_in_each_column : AStripeIsInEachColumn
a_stripe_is_in_each_column file stripe columns values has =
    let are = stripe_is file stripe columns values has in
    (are.each, are.all)

pub rows_are_in_each_column : RowsAreInEachColumn
rows_are_in_each_column file columns stripes rows have =
    let are = rows_are file columns stripes rows have in
    (are.each, are.all)
