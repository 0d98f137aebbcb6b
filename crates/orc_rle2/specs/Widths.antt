-- The widths of packed values, in bits.
--
-- Source: Apache ORC specification v1, "Integer Run Length Encoding, version 2", its table of widths.
use Rattle.std.specs.Prelude.{◌≡◌, ℕ, ◌+◌, ◌-◌, ◌<◌, ◌≤◌, List, [], ◌∷◌, nat_lt, nat_le, slice_index_or, if◌then◌else◌}

-- the widths above 24 bits, in order; below them all are there
abbrev pub wide : List ℕ
wide = 26 ∷ 28 ∷ 30 ∷ 32 ∷ 40 ∷ 48 ∷ 56 ∷ 64 ∷ []

-- the width that a code means
abbrev pub width_of : ℕ → ℕ
width_of code = if nat_lt code 24 then code + 1 else slice_index_or wide (code - 24) 64

-- the first of these widths, in order, that is at least so many bits; where none is, the greatest
abbrev pub least_of : List ℕ → ℕ → ℕ
least_of [] bits = 64
least_of (width ∷ widths) bits = if nat_le bits width then width else least_of widths bits

-- the least width that is at least so many bits
abbrev pub least_width : ℕ → ℕ
least_width bits = if nat_le bits 24 then bits else least_of wide bits

-- what all widths of the table have in common: a value of one stands within eight bytes, whatever bit it begins at
pub record IsWidth (width : ℕ) : Type 0 where
  pub some : 0 < width
  pub most : width ≤ 64
  pub whole : 56 < width → width ≡ 64
