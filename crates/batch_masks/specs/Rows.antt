-- The rows of a batch of columns, and which of them pass (this project's own).
use Rattle.std.specs.Prelude.{ℕ, zero, suc, ◌+◌, ◌&&◌, Bool, true, List, [], ◌∷◌, map, get_or, filter}
use Rattle.orc_values.specs.declared.value.Value.{Value}
use Rattle.orc_values.specs.declared.value.Value.TheVariants as value
use Rattle.fragment_plan.specs.declared.test.Test.{Test}
use Rattle.batch_masks.specs.Checks.{check_holds}

-- the value of a row in a column
abbrev pub field : List Value → ℕ → Value
field row column = get_or row column value.Null

-- a row passes where each test holds of it
abbrev pub passes : List Test → List Value → Bool
passes [] row = true
passes (t ∷ tests) row = check_holds t.check (field row t.column) && passes tests row

-- the rows that pass, in order
abbrev pub passing : List Test → List (List Value) → List (List Value)
passing tests rows = filter (passes tests) rows

-- a batch's row at a place
abbrev pub row_at : List (List Value) → ℕ → List Value
row_at columns k = map (λ column. get_or column k value.Null) columns

-- so many rows of a batch, from a place on
abbrev pub rows_from : ℕ → ℕ → List (List Value) → List (List Value)
rows_from k zero columns = []
rows_from k (suc n) columns = row_at columns k ∷ rows_from (k + 1) n columns

-- so many rows of a batch: each column's values at each place
abbrev pub rows_of : ℕ → List (List Value) → List (List Value)
rows_of n columns = rows_from 0 n columns
