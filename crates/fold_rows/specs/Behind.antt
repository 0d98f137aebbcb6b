-- How many of the rows in front of a row have a value (this project's own).
use Rattle.std.specs.Prelude.{ℕ, List, [], map, get_or, take}
use Rattle.orc_values.specs.declared.value.Value.{Value}
use Rattle.orc_values.specs.Column.{present_of}
use Rattle.orc_values.specs.Woven.{present_count}

-- in a column
abbrev pub behind : List (List Value) → ℕ → ℕ → ℕ
behind columns row place = present_count (take row (present_of (get_or columns place [])))

-- in each of the listed columns
abbrev pub behind_each : List (List Value) → ℕ → List ℕ → List ℕ
behind_each columns row places = map (behind columns row) places
