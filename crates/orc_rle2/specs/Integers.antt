-- What the numbers of a run stand for, beyond what both versions share.
--
-- Source: Apache ORC specification v1, "Integer Run Length Encoding, version 2"; that sums wrap at 64 bits is
-- this project's own.
use Rattle.std.specs.Prelude.{ℕ, ◌-◌, ◌^◌, List, [], ◌∷◌, map, ℤ, pos, negsuc, neg_ℤ, nat_lt, Result, Ok, Err, if◌then◌else◌}
use Rattle.std.specs.Int.{w64, cast_signed, cast_unsigned}
use Rattle.orc_integers.specs.Integers.{wrapped_sum}

-- a number of so many bits whose top bit is its sign and whose rest is its magnitude
abbrev pub sign_magnitude : ℕ → ℕ → ℤ
sign_magnitude bits number = if nat_lt number (2 ^ (bits - 1)) then pos number else neg_ℤ (pos (number - 2 ^ (bits - 1)))

-- a magnitude with the sign of a delta, of which 0 counts as positive
abbrev pub with_sign : ℤ → ℕ → ℤ
with_sign (pos delta) magnitude = pos magnitude
with_sign (negsuc delta) magnitude = neg_ℤ (pos magnitude)

-- a value, and then those that each step makes of the one before
abbrev pub sums : ℤ → List ℤ → List ℤ
sums value [] = value ∷ []
sums value (step ∷ steps) = value ∷ sums (wrapped_sum value step) steps

-- the value of 64 bits, where they were read
abbrev pub seen : {E : Type 0} → Result ℕ E → Result ℤ E
seen (Ok bits) = Ok (cast_signed w64 bits)
seen (Err e) = Err e

-- the 64 bits of values, as numbers: packed numbers stand as such values until they are patched or summed
abbrev pub bits_in : List ℤ → List ℕ
bits_in values = map (cast_unsigned w64) values
