-- Values beside the flags that say in which rows a value stands.
--
-- Source: Apache ORC specification v1, "Column Encodings": a present stream has one flag for each row, and the
-- other streams of the column have nothing for a row whose flag isn't set.
use Rattle.std.specs.Prelude.{ℕ, ◌+◌, Bool, true, false, List, [], ◌∷◌, Option, Some, None, if◌then◌else◌}

-- how many flags are set
abbrev pub present_count : List Bool → ℕ
present_count [] = 0
present_count (p ∷ present) = (if p then 1 else 0) + present_count present

-- a dense list, of the values that stand: each set flag takes the next one
abbrev pub woven : {A : Type 0} → List Bool → List A → List (Option A)
woven [] values = []
woven (false ∷ present) values = None ∷ woven present values
woven (true ∷ present) [] = None ∷ woven present []
woven (true ∷ present) (value ∷ values) = Some value ∷ woven present values
