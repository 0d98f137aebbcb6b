-- What the answer of a scan is, over its rows that pass (this project's own).
use Rattle.std.specs.Prelude.{◌≡◌, ◌≢◌, ◌<◌, ◌≤◌, ◌^◌, ℕ, ℤ, pos, true, false, List, [], length, map, Some, None, Result, Ok, Err}
use Rattle.std.specs.Map.{keys_of, values_of}
use Rattle.std.specs.List.{AllByRecursion}
use Rattle.std.specs.List.Sorted.{IsStrictlySortedBy}
use Rattle.orc_values.specs.declared.value.Value.{Value}
use Rattle.fragment_plan.specs.declared.fragment.FoldKind.{FoldKind}
use Rattle.fragment_plan.specs.declared.fragment.FoldKind.TheVariants as kind
use Rattle.group_counts.specs.Order.{value_cmp}
use Rattle.group_counts.specs.Tally.{count_in, total_at}
use Rattle.group_counts.specs.Entries.{Entries}
use Rattle.batch_masks.specs.Totals.{numbers_in, plus_all}
use Rattle.fragment_outcome.specs.declared.answer.Answer.{Answer}
use Rattle.fragment_outcome.specs.declared.answer.Answer.TheVariants as answer
use Rattle.fragment_folds.specs.declared.faults.Overflow.{Overflow}
use Rattle.fold_rows.specs.States.{picked, column_of, once}
use Rattle.fragment_folds.specs.Folding.{is_i64}

-- the sum of numbers
abbrev pub sum_of : List ℤ → ℤ
sum_of numbers = plus_all (pos 0) numbers

-- how many of the values are the same as this one
abbrev pub number_of : List Value → Value → ℕ
number_of values key = total_at value_cmp (once values) key

-- Each value with its number, values ascending: null, false, true, numbers, texts by their bytes; none that isn't among them.
pub record AreGroups (values : List Value) (groups : Entries) : Type 0 where
  pub ordered : IsStrictlySortedBy value_cmp (keys_of groups)
  pub numbers : (key : Value) → count_in value_cmp groups key ≡ number_of values key
  pub some : AllByRecursion (λ n. 0 < n) (values_of groups)

-- the sum of the values in a column of rows
abbrev pub column_sum : ℕ → List (List Value) → ℤ
column_sum place rows = sum_of (numbers_in (column_of place rows))

-- each value's number fits the 64 bits of `i64`
abbrev pub FitCounts : List Value → Type 0
FitCounts values = (key : Value) → number_of values key < 2 ^ 63

-- What a fold makes of its rows. Overflow is where a total of all rows, a sum or any count, isn't in the 64 bits of `i64`.
pub data IsAnswerOf : FoldKind → List (List Value) → Result Answer Overflow → Type 0 where
  rows : (places : List ℕ) (rows : List (List Value))
      → IsAnswerOf (kind.Rows places) rows (Ok (answer.Rows (map (picked places) rows)))
  count : (rows : List (List Value)) → length rows < 2 ^ 63
      → IsAnswerOf kind.Count rows (Ok (answer.Count (pos (length rows))))
  count_overflows : (rows : List (List Value)) → 2 ^ 63 ≤ length rows → IsAnswerOf kind.Count rows (Err (record {}))
  null : (place : ℕ) (rows : List (List Value)) → numbers_in (column_of place rows) ≡ []
      → IsAnswerOf (kind.Sum place) rows (Ok (answer.Sum None))
  sum : (place : ℕ) (rows : List (List Value)) → numbers_in (column_of place rows) ≢ [] → is_i64 (column_sum place rows) ≡ true
      → IsAnswerOf (kind.Sum place) rows (Ok (answer.Sum (Some (column_sum place rows))))
  sum_overflows : (place : ℕ) (rows : List (List Value)) → is_i64 (column_sum place rows) ≡ false
      → IsAnswerOf (kind.Sum place) rows (Err (record {}))
  group : (place : ℕ) (rows : List (List Value)) (groups : Entries) → AreGroups (column_of place rows) groups
      → FitCounts (column_of place rows)
      → IsAnswerOf (kind.Group place) rows (Ok (answer.Group groups))
  group_overflows : (place : ℕ) (rows : List (List Value)) → (FitCounts (column_of place rows) → ⊥)
      → IsAnswerOf (kind.Group place) rows (Err (record {}))
