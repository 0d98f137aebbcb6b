-- How much room is left behind some lengths.
use Rattle.std.proofs.Common.{◌≡◌, ℕ, zero, suc, ◌+◌, ◌<◌, ◌≤◌, List, [], ◌∷◌, length, map, take, sum, ℤ, pos, unsigned_abs, arith}
use Rattle.std.specs.Prelude.{slice_index_or}
use Rattle.orc_values.specs.TextsLaws.{sum-cons}

some_of : (numbers : List ℤ) (i : ℕ) → i < length numbers → sum (map unsigned_abs (take i numbers)) + unsigned_abs (slice_index_or numbers i (pos 0)) ≤ sum (map unsigned_abs numbers)
some_of [] i h = absurd (omega arith)
some_of (x ∷ numbers) zero h = omega (arith, sum-cons (unsigned_abs x) (map unsigned_abs numbers))
some_of (x ∷ numbers) (suc i) h = omega (arith, some_of numbers i (omega arith), sum-cons (unsigned_abs x) (map unsigned_abs (take i numbers)), sum-cons (unsigned_abs x) (map unsigned_abs numbers))

-- what is left before a length is less than it
pub past_room : (numbers : List ℤ) (i left room : ℕ) → i < length numbers → left < unsigned_abs (slice_index_or numbers i (pos 0)) → left + sum (map unsigned_abs (take i numbers)) ≡ room → room < sum (map unsigned_abs numbers)
past_room numbers i left room h less is = omega (arith, some_of numbers i h)
