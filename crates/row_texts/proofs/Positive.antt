-- Numbers whose highest bit isn't set.
use Rattle.std.proofs.Common.{◌≡◌, ℕ, zero, suc, ◌+◌, ◌*◌, ◌^◌, ◌<◌, ◌≤◌, ℤ, pos, negsuc, List, [], ◌∷◌, length, get_or, map, sum, unsigned_abs, bit_or, of_z, w64, FitsSigned, refl, arith, rules}
use Rattle.std.specs.Prelude.{All}
use Rattle.std.specs.Int.{IsNonNegative}
use Rattle.std.proofs.lemmas.Int.{ints}
use Rattle.std.proofs.lemmas.Nat.{le_or_l, le_or_r}
use Rattle.orc_values.specs.TextsLaws.{sum-cons}

pub is_positive : (v : ℤ) → FitsSigned w64 v → of_z w64 v < 2 ^ 63 → IsNonNegative v
is_positive (pos n) fits h = search rules
is_positive (negsuc n) fits h = absurd (omega (arith, ints, fits))

pub seen_more : (f : ℕ → ℕ) (i seen last : ℕ) → ((k : ℕ) → k < i → f k ≤ seen) → f i ≡ last → (k : ℕ) → k < i + 1
    → f k ≤ bit_or seen last
seen_more f i seen last before is k below = grind (arith, before k, le_or_l seen last, le_or_r seen last)

pub fit_more : (xs : List ℤ) (i : ℕ) → ((k : ℕ) → k < i → FitsSigned w64 (get_or xs k (pos 0)))
    → FitsSigned w64 (get_or xs i (pos 0)) → (k : ℕ) → k < i + 1 → FitsSigned w64 (get_or xs k (pos 0))
fit_more xs i before now k below = grind (arith, before k, now)

-- an item that is there, whatever stands in place of one that isn't
pub get_or-any : (xs : List ℤ) (k : ℕ) (d e : ℤ) → k < length xs → get_or xs k d ≡ get_or xs k e
get_or-any [] k d e h = absurd (omega arith)
get_or-any (x ∷ xs) zero d e h = refl
get_or-any (x ∷ xs) (suc k) d e h = get_or-any xs k d e (omega arith)

abs_is : (v : ℤ) → FitsSigned w64 v → IsNonNegative v → unsigned_abs v ≡ of_z w64 v
abs_is (pos n) fits h = search rules
abs_is (negsuc n) fits h = absurd h

-- lengths that aren't negative, and whose bits are below 2^32
pub small_sum : (xs : List ℤ) (limit : ℕ) → All IsNonNegative xs → All (FitsSigned w64) xs → All (λ v. of_z w64 v ≤ limit) xs
    → limit < 4294967296 → sum (map unsigned_abs xs) ≤ length xs * 4294967295
small_sum [] limit positive fit within h = omega arith
small_sum (x ∷ xs) limit positive fit within h =
    let first : unsigned_abs x ≡ of_z w64 x = abs_is x (fit 0 x (omega arith)) (positive 0 x (omega arith)) in
    let least : of_z w64 x ≤ limit = within 0 x (omega arith) in
    let others : sum (map unsigned_abs xs) ≤ length xs * 4294967295 =
    small_sum xs limit (λ k d b. positive (suc k) d (omega arith)) (λ k d b. fit (suc k) d (omega arith)) (λ k d b. within (suc k) d (omega arith)) h in
    omega (arith, sum-cons (unsigned_abs x) (map unsigned_abs xs))
