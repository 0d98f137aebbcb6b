-- Numbers that come to less than 2^63 with what a size lacks of it.
use Rattle.std.proofs.Common.{◌≡◌, ℕ, ◌+◌, ◌^◌, ◌<◌, ◌%◌, bit_or, arith}
use Rattle.std.proofs.lemmas.Nat.{le_or_l, le_or_r}

pub below_more : (f : ℕ → ℕ) (i seen moved last lack size : ℕ) → (seen < 2 ^ 63 → moved < 2 ^ 63 → (k : ℕ) → k < i → f k < size) → f i ≡ last
    → lack + size ≡ 2 ^ 63 → bit_or seen last < 2 ^ 63 → bit_or moved ((last + lack) % 18446744073709551616) < 2 ^ 63 → (k : ℕ) → k < i + 1 → f k < size
below_more f i seen moved last lack size before is lacks low moved_low k below =
    let on = (last + lack) % 18446744073709551616 in
    let early : (k : ℕ) → k < i → f k < size = before (omega (arith, low, le_or_l seen last)) (omega (arith, moved_low, le_or_l moved on)) in
    let less : last < size = omega (arith, low, moved_low, le_or_r seen last, le_or_r moved on, lacks) in
    grind (arith, early k, is, less, below)
