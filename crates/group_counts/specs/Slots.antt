-- Values that were counted in a small table (this project's own).
use Rattle.std.specs.Prelude.{ℕ, zero, suc, List, [], ◌∷◌, ◌++◌}
use Rattle.orc_values.specs.declared.value.Value.{Value}
use Rattle.orc_values.specs.Shown.{shown}
use Rattle.group_counts.specs.declared.seen.Slot.{Slot}
use Rattle.group_counts.specs.Entries.{Entries}

-- a value that was counted so often, and none where it never was
abbrev pub counted : Value → ℕ → Entries
counted v zero = []
counted v (suc n) = (v, suc n) ∷ []

-- the values of a table that were counted
abbrev pub slot_entries : List Slot → Entries
slot_entries [] = []
slot_entries (slot ∷ slots) = counted (shown slot.key) slot.count ++ slot_entries slots
