-- Entries of a dictionary that were counted by their numbers (this project's own).
use Rattle.std.specs.Prelude.{ℕ, Bool, List, [], ◌∷◌, ◌++◌, if◌then◌else◌}
use Rattle.orc_values.specs.declared.value.Value.{Value}
use Rattle.orc_values.specs.declared.value.Value.TheVariants as value
use Rattle.group_counts.specs.Entries.{Entries}
use Rattle.group_counts.specs.Slots.{counted}

-- each entry with its count, and none where it never was counted
abbrev pub entry_counts : List (List ℕ) → List ℕ → Entries
entry_counts [] counts = []
entry_counts (entry ∷ entries) [] = []
entry_counts (entry ∷ entries) (count ∷ counts) = counted (value.Text entry) count ++ entry_counts entries counts

-- each value of the rows whose flag is set, once
abbrev pub flagged : List Bool → List Value → Entries
flagged [] column = []
flagged (p ∷ flags) [] = []
flagged (p ∷ flags) (v ∷ column) = if p then (v, 1) ∷ flagged flags column else flagged flags column
