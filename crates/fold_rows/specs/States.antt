-- What a scan has of its rows that pass (this project's own).
use Rattle.std.specs.Prelude.{ℕ, ℤ, pos, Bool, false, List, [], ◌++◌, length, map}
use Rattle.orc_values.specs.declared.value.Value.{Value}
use Rattle.fragment_plan.specs.declared.fragment.FoldKind.{FoldKind}
use Rattle.fragment_plan.specs.declared.fragment.FoldKind.TheVariants as fold
use Rattle.group_counts.specs.Order.{value_cmp}
use Rattle.group_counts.specs.Tally.{plus, added_all}
use Rattle.group_counts.specs.Entries.{Entries}
use Rattle.batch_masks.specs.Kept.{kept}
use Rattle.batch_masks.specs.Rows.{field, rows_of}
use Rattle.batch_masks.specs.Totals.{numbers_in, with_numbers}
use Rattle.fold_rows.specs.declared.state.State.{State}
use Rattle.fold_rows.specs.declared.state.State.TheVariants as state

-- the listed columns of a row, repeats included
abbrev pub picked : List ℕ → List Value → List Value
picked places row = map (λ place. field row place) places

-- a column of rows
abbrev pub column_of : ℕ → List (List Value) → List Value
column_of place rows = map (λ row. field row place) rows

-- each of them once
abbrev pub once : List Value → Entries
once keys = map (λ key. (key, 1)) keys

-- what a fold has of no rows
abbrev pub nothing : FoldKind → State
nothing (fold.Rows places) = state.Rows []
nothing fold.Count = state.Count 0
nothing (fold.Sum place) = state.Sum (record { some = false; sum = pos 0 })
nothing (fold.Group place) = state.Group []

-- What a fold has with rows more that pass: `rows` keeps the listed columns of each, `count` counts them, `sum` adds the numbers of a
-- column, and `group` counts each value of a column.
abbrev pub with_rows : FoldKind → State → List (List Value) → State
with_rows (fold.Rows places) (state.Rows table) rows = state.Rows (table ++ map (picked places) rows)
with_rows fold.Count (state.Count count) rows = state.Count (plus count (length rows))
with_rows (fold.Sum place) (state.Sum total) rows = state.Sum (with_numbers total (numbers_in (column_of place rows)))
with_rows (fold.Group place) (state.Group counts) rows = state.Group (added_all value_cmp counts (once (column_of place rows)))
with_rows kind was rows = was

-- the rows of a batch of these columns whose flag is set, where there is a flag for each row
abbrev pub kept_rows : List Bool → List (List Value) → List (List Value)
kept_rows flags columns = kept flags (rows_of (length flags) columns)

-- the sum that a fold has, 0 where it has none
abbrev pub sum_in : State → ℤ
sum_in (state.Rows table) = pos 0
sum_in (state.Count count) = pos 0
sum_in (state.Sum total) = total.sum
sum_in (state.Group counts) = pos 0
