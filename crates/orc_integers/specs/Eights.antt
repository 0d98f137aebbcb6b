-- Varints of two bytes, side by side.
--
-- Source: Apache ORC specification v1, "Base 128 Varint".
use Rattle.std.specs.Prelude.{ℕ, ◌+◌, ◌*◌, ◌%◌, ◌<◌, ◌≤◌, List, [], ◌∷◌}

-- each two bytes are a varint: of the first the top bit is set, of the second it isn't
abbrev pub ArePairs : List ℕ → Type 0
ArePairs [] = Unit {0}
ArePairs (first ∷ []) = ⊥
ArePairs (first ∷ second ∷ bytes) = ((128 ≤ first) × (second < 128)) × ArePairs bytes

-- the numbers of such varints
abbrev pub numbers_of_pairs : List ℕ → List ℕ
numbers_of_pairs [] = []
numbers_of_pairs (first ∷ []) = []
numbers_of_pairs (first ∷ second ∷ bytes) = (first % 128 + 128 * second) ∷ numbers_of_pairs bytes
