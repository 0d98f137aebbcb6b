-- Texts by the numbers of a dictionary's entries.
--
-- Source: Apache ORC specification v1, "Column Encodings".
use Rattle.std.specs.Prelude.{◌<◌, ℕ, ℤ, List, [], length, map, slice_index_or, All}
use Rattle.std.specs.Int.{w64, cast_unsigned}

-- Numbers of entries, as the 64 bits that a stream spells them by.
abbrev pub places_of : List ℤ → List ℕ
places_of numbers = map (cast_unsigned w64) numbers

-- the entries of these numbers
abbrev pub chosen : List (List ℕ) → List ℕ → List (List ℕ)
chosen entries places = map (λ place. slice_index_or entries place []) places

-- each of these numbers is that of an entry
abbrev pub AreWithin : List (List ℕ) → List ℤ → Type 0
AreWithin entries numbers = All (λ place. place < length entries) (places_of numbers)
