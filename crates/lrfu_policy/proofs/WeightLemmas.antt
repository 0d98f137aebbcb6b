-- Weights are compared without their large powers.
use Rattle.std.proofs.Common.{◌≡◌, ℕ, ◌*◌, ◌^◌, ◌<◌, ◌+◌, ◌-◌, ◌≤◌, refl, sym, ap, ◌∙◌, arith}
use Rattle.std.specs.Ordering.{nat_cmp, MatchOrdering, ordering_reverse}
use Rattle.std.proofs.Common.{Ordering, Less, Equal, Greater}
use Rattle.std.specs.Cmp.{nat_cmp_is}
use Rattle.std.proofs.lemmas.Cmp.{ranked, nat_cmp_total}
use Rattle.std.proofs.lemmas.Nat.{pow_pos, pow-add}
use Rattle.std.proofs.Math.Nat.{mul-le-mul_right, pow-le-pow_right, mul_assoc}

-- a factor that both have may go
times_ranked : (x y k : ℕ) (o : Ordering) → 0 < k → MatchOrdering o (x < y) (x ≡ y) (y < x) → MatchOrdering o (x * k < y * k) (x * k ≡ y * k) (y * k < x * k)
times_ranked x y k Less some less = let up : x + 1 ≤ y = omega (arith, less) in omega (arith, some, mul-le-mul_right k up)
times_ranked x y k Equal some same = ap (λ (n : ℕ). n * k) same
times_ranked x y k Greater some more = let up : y + 1 ≤ x = omega (arith, more) in omega (arith, some, mul-le-mul_right k up)

pub cmp_times : (x y k : ℕ) → 0 < k → nat_cmp x y ≡ nat_cmp (x * k) (y * k)
cmp_times x y k some = nat_cmp_is (x * k) (y * k) (nat_cmp x y) (times_ranked x y k (nat_cmp x y) some (ranked x y (nat_cmp x y) refl))

pub cmp_far : (x y k : ℕ) → x < 2 ^ 64 → 0 < y → 2 ^ 64 ≤ k → Less ≡ nat_cmp x (y * k)
cmp_far x y k fits some far =
    let up : 1 ≤ y = omega (arith, some) in
    nat_cmp_is x (y * k) Less (omega (arith, fits, far, mul-le-mul_right k up))

pub far_power : (shift : ℕ) → 64 ≤ shift → 2 ^ 64 ≤ 2 ^ shift
far_power shift far = pow-le-pow_right (omega arith) far

-- a shift by more than a word's bits
pub cmp_far_shift : (x y shift : ℕ) → x < 2 ^ 64 → 0 < y → 64 ≤ shift → Less ≡ nat_cmp x (y * 2 ^ shift)
cmp_far_shift x y shift fits some far = cmp_far x y (2 ^ shift) fits some (far_power shift far)

-- the power that is above the lower one
split_power : (b p q : ℕ) → p ≤ q → (b * 2 ^ (q - p)) * 2 ^ p ≡ b * 2 ^ q
split_power b p q h =
    let e : (q - p) + p ≡ q = omega (arith, h) in
    let s = pow-add 2 (q - p) p in
    mul_assoc b (2 ^ (q - p)) (2 ^ p) ∙ ap (λ (n : ℕ). b * n) (sym s ∙ ap (λ (n : ℕ). 2 ^ n) e)

pub cmp_lower : (a p b q : ℕ) → p ≤ q → nat_cmp a (b * 2 ^ (q - p)) ≡ nat_cmp (a * 2 ^ p) (b * 2 ^ q)
cmp_lower a p b q h = cmp_times a (b * 2 ^ (q - p)) (2 ^ p) (pow_pos p) ∙ ap (λ (n : ℕ). nat_cmp (a * 2 ^ p) n) (split_power b p q h)

pub cmp_higher : (a p b q : ℕ) → q ≤ p → ordering_reverse (nat_cmp b (a * 2 ^ (p - q))) ≡ nat_cmp (a * 2 ^ p) (b * 2 ^ q)
cmp_higher a p b q h = ap ordering_reverse (cmp_lower b q a p h) ∙ sym (nat_cmp_total.antisymm (a * 2 ^ p) (b * 2 ^ q))
