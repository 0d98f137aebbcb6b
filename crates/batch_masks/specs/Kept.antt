-- The entries of the rows that pass (this project's own).
use Rattle.std.specs.Prelude.{◌&&◌, Bool, false, List, [], ◌∷◌, map, if◌then◌else◌}
use Rattle.std.specs.Option.{unwrap_or}
use Rattle.orc_values.specs.Woven.{woven}

-- the entries whose flag is set
abbrev pub kept : {A : Type 0} → List Bool → List A → List A
kept [] entries = []
kept (p ∷ flags) [] = []
kept (p ∷ flags) (entry ∷ entries) = if p then entry ∷ kept flags entries else kept flags entries

-- both flags of each row
abbrev pub both : List Bool → List Bool → List Bool
both [] others = []
both (p ∷ flags) [] = []
both (p ∷ flags) (q ∷ others) = (p && q) ∷ both flags others

-- the flags of all rows, by those of the rows that have a value: where there is none it isn't set
abbrev pub scattered : List Bool → List Bool → List Bool
scattered present flags = map (λ flag. unwrap_or flag false) (woven present flags)
