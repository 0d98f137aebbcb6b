-- A stripe more. Source: this project's own.
use Rattle.std.specs.Prelude.{◌≡◌, ℕ, zero, suc, List, [], ◌∷◌, ◌++◌}
use Rattle.orc_tail.specs.declared.stripe.Stripe.{Stripe}
use Rattle.table_columns.specs.declared.table_column.TableColumn.{TableColumn}
use Rattle.table_writer.specs.Table.{HasTable}

-- a stripe of so many rows of these columns behind the bytes, and at the end of the list
abbrev pub AddsStripe : List ℕ → List ℕ → List Stripe → List Stripe → List TableColumn → ℕ → Type 0
AddsStripe before after stripes_before stripes_after columns rows =
    (stripe : Stripe) × (stripes_after ≡ stripes_before ++ stripe ∷ []) × HasTable before after stripe columns rows

-- the same, where there are rows
abbrev pub AddsLast : List ℕ → List ℕ → List Stripe → List Stripe → List TableColumn → ℕ → Type 0
AddsLast before after stripes_before stripes_after columns zero = (after ≡ before) × (stripes_after ≡ stripes_before)
AddsLast before after stripes_before stripes_after columns (suc rows) =
    AddsStripe before after stripes_before stripes_after columns (suc rows)
