-- Texts that stand one behind the other in one list of bytes.
use Rattle.std.specs.Prelude.{ℕ, zero, suc, ◌+◌, ◌≤◌, List, [], ◌∷◌, length, slice_range}

-- each text begins where the one before it ends, and the first at a place
abbrev pub texts_from : ℕ → List ℕ → List ℕ → List (List ℕ)
texts_from from [] bytes = []
texts_from from (end ∷ ends) bytes = slice_range bytes from end ∷ texts_from end ends bytes

-- ends that don't fall, from a place on, and go to a limit at most
abbrev pub AreEnds : ℕ → List ℕ → ℕ → Type 0
AreEnds from [] limit = from ≤ limit
AreEnds from (end ∷ ends) limit = (from ≤ end) × AreEnds end ends limit

-- where the text at an index begins
abbrev pub start_of : ℕ → List ℕ → ℕ → ℕ
start_of from ends zero = from
start_of from [] (suc index) = from
start_of from (end ∷ ends) (suc index) = start_of end ends index

-- where the last text ends
abbrev pub last_end : ℕ → List ℕ → ℕ
last_end from ends = start_of from ends (length ends)

-- texts by their lengths: each is as long as its length says, and stands behind those before it
--
-- Source: Apache ORC specification v1, "String, Char, and VarChar Columns"
abbrev pub slices : ℕ → List ℕ → List ℕ → List (List ℕ)
slices at [] bytes = []
slices at (len ∷ lens) bytes = slice_range bytes at (at + len) ∷ slices (at + len) lens bytes

-- the ends that lengths make: the sum of each with those before it
abbrev pub running_ends : ℕ → List ℕ → List ℕ
running_ends at [] = []
running_ends at (len ∷ lens) = (at + len) ∷ running_ends (at + len) lens
