-- Lengths that are none; texts by the numbers of a dictionary's entries stand in orc_values.
--
-- Source: Apache ORC specification v1, "Column Encodings".
use Rattle.std.specs.Prelude.{ℤ, pos, negsuc}
pub use Rattle.orc_values.specs.Chosen.{places_of, chosen}

-- a number whose 64th bit is set is no length
abbrev pub IsNegative : ℤ → Type 0
IsNegative (pos n) = ⊥
IsNegative (negsuc n) = Unit {0}
