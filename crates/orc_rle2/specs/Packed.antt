-- Packed values: big endian bits, one value after the other, padded to a byte at the end.
--
-- Source: Apache ORC specification v1, "Integer Run Length Encoding, version 2".
use Rattle.std.specs.Prelude.{ℕ, ◌+◌, ◌-◌, ◌*◌, ◌/◌, ◌%◌, ◌^◌, List, [], ◌∷◌, length, map}
use Rattle.std.specs.List.{range_with_len}

-- the number in these bytes, behind those of another
abbrev pub number_after : ℕ → List ℕ → ℕ
number_after number [] = number
number_after number (byte ∷ bytes) = number_after (256 * number + byte) bytes

-- the number in these bytes, big endian
abbrev pub number_of : List ℕ → ℕ
number_of bytes = number_after 0 bytes

-- how many bytes so many values of this width have
abbrev pub packed_len : ℕ → ℕ → ℕ
packed_len width count = (width * count + 7) / 8

-- so many bits of these bytes as a number, up to a place that is counted in bits from the first byte's highest
abbrev pub bits_to : List ℕ → ℕ → ℕ → ℕ
bits_to bytes width place = number_of bytes / 2 ^ (8 * length bytes - place) % 2 ^ width

-- the first values of this width
abbrev pub unpacked : ℕ → ℕ → List ℕ → List ℕ
unpacked width count bytes = map (λ i. bits_to bytes width (width * (i + 1))) (range_with_len 0 count)
