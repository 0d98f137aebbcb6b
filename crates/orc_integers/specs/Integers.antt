-- What the numbers of a run stand for, and the values of a run that goes up or down by equal steps.
--
-- Source: Apache ORC specification v1, "Integer Run Length Encoding, version 1" and "version 2"; that sums wrap at 64
-- bits is this project's own.
use Rattle.std.specs.Prelude.{ℕ, ◌+◌, ◌/◌, ◌%◌, Bool, true, false, List, map, ℤ, pos, neg_ℤ, ◌+ℤ◌, ◌*ℤ◌, ◌==◌, if◌then◌else◌}
use Rattle.std.specs.Int.{w64, cast_signed, int_wrap}
use Rattle.std.specs.List.{range_with_len}

-- zigzag: 0, -1, 1, -2, 2, and so on
abbrev pub zigzag : ℕ → ℤ
zigzag number = if number % 2 == 0 then pos (number / 2) else neg_ℤ (pos ((number + 1) / 2))

-- what an unsigned number of a stream stands for: in a signed stream zigzag, and else its 64 bits
abbrev pub integer : Bool → ℕ → ℤ
integer true number = zigzag number
integer false number = cast_signed w64 number

-- the sum of two values
abbrev pub wrapped_sum : ℤ → ℤ → ℤ
wrapped_sum a b = int_wrap w64 (a +ℤ b)

-- so many values from the base on, each a delta above the one before
abbrev pub ramp : ℤ → ℤ → ℕ → List ℤ
ramp base delta count = map (λ i. wrapped_sum base (pos i *ℤ delta)) (range_with_len 0 count)
