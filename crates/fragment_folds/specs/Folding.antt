-- What a scan makes of the rows that pass (this project's own).
use Rattle.std.specs.Prelude.{ℕ, ◌^◌, ℤ, pos, neg_ℤ, Bool, int_le, int_lt, ◌&&◌, nat_lt, if◌then◌else◌}
use Rattle.std.specs.Prelude.{List, [], ◌∷◌, length, Some, None, Result, Ok, Err}
use Rattle.orc_values.specs.declared.value.Value.{Value}
use Rattle.fragment_plan.specs.declared.fragment.Scan.{Scan}
use Rattle.group_counts.specs.Tally.{plus}
use Rattle.group_counts.specs.Entries.{all_fit}
use Rattle.batch_masks.specs.Rows.{passing}
use Rattle.fragment_outcome.specs.declared.answer.Answer.{Answer}
use Rattle.fragment_outcome.specs.declared.answer.Answer.TheVariants as answer
use Rattle.fold_rows.specs.declared.state.State.{State}
use Rattle.fold_rows.specs.declared.state.State.TheVariants as state
use Rattle.fold_rows.specs.States.{nothing, with_rows}
use Rattle.fragment_folds.specs.declared.faults.Overflow.{Overflow}

-- What contracts see of a fold: its scan, how many rows it was given (the greatest number of 64 bits where they are more), and what it
-- has of them.
pub record FoldOf : Type 0 where
  pub scan : Scan
  pub rows : ℕ
  pub state : State

-- how many rows a batch has: as many as its first column
abbrev pub rows_in : List (List Value) → ℕ
rows_in [] = 0
rows_in (column ∷ columns) = length column

-- a fold of no rows
abbrev pub begun : Scan → FoldOf
begun scan = record { scan = scan; rows = 0; state = nothing scan.fold }

-- a fold with these rows more, of which those count that pass
abbrev pub folded : FoldOf → List (List Value) → FoldOf
folded f rows =
    record {
      scan = f.scan;
      rows = plus f.rows (length rows);
      state = with_rows f.scan.fold f.state (passing f.scan.tests rows);
    }

-- whether a number is one of the 64 bits of `i64`
abbrev pub is_i64 : ℤ → Bool
is_i64 n = int_le (neg_ℤ (pos (2 ^ 63))) n && int_lt n (pos (2 ^ 63))

-- The answer of what a fold has. Overflow comes exactly where the whole total, a sum or any count, isn't in the 64 bits of `i64`.
abbrev pub finished : State → Result Answer Overflow
finished (state.Rows table) = Ok (answer.Rows table)
finished (state.Count count) = if nat_lt count (2 ^ 63) then Ok (answer.Count (pos count)) else Err (record {})
finished (state.Sum total) =
    if total.some then (if is_i64 total.sum then Ok (answer.Sum (Some total.sum)) else Err (record {})) else Ok (answer.Sum None)
finished (state.Group counts) = if all_fit counts then Ok (answer.Group counts) else Err (record {})
