-- Blocks: where they begin, how they lie in one another, and what fits.
use Rattle.std.proofs.Common.{◌≡◌, ℕ, ◌+◌, ◌-◌, ◌*◌, ◌/◌, ◌%◌, ◌^◌, ◌<◌, ◌≤◌, ◌≢◌, ◌⊎◌, inl, inr, sym, ap, ◌∙◌, subst, arith}
use Rattle.std.proofs.Math.Nat.{mul-le-mul_right, div-mul-le_self}
use Rattle.std.proofs.lemmas.Nat.{mod-pow-add, div-mul-add, shl-shr, shr-shr, shr_split, pow_pos, pow-add, mod_below, div-add-mod'}
use Rattle.std.proofs.Math.Pow.{pow_mono}
use Rattle.std.proofs.lemmas.Bool.{cases_lt}
use Rattle.buddy_arena.specs.Block.{around, IsBlock, covers}

-- where a block begins, the block around its place begins
pub around_times : (q k : ℕ) → around (q * 2 ^ k) k ≡ q * 2 ^ k
around_times q k = ap (λ (x : ℕ). x * 2 ^ k) (shl-shr q k)

pub around_around : (p k : ℕ) → around (around p k) k ≡ around p k
around_around p k = around_times (p / 2 ^ k) k

-- a place lies in the block around it
pub around_low : (p k : ℕ) → around p k ≤ p
around_low p k = div-mul-le_self p (2 ^ k)

pub around_high : (p k : ℕ) → p < around p k + 2 ^ k
around_high p k = omega (arith, shr_split p k, mod_below p (2 ^ k) (pow_pos k))

nested_low : (q d e : ℕ) → q / e * (e * d) ≤ q * d
nested_low q d e = omega (arith, mul-le-mul_right d (div-mul-le_self q e))

nested_high : (q d e : ℕ) → 0 < e → q * d + d ≤ q / e * (e * d) + e * d
nested_high q d e some =
    let above : q + 1 ≤ q / e * e + e = omega (arith, div-add-mod' q e, mod_below q e some) in
    omega (arith, mul-le-mul_right d above)

pow_split : (j k : ℕ) → j ≤ k → 2 ^ k ≡ 2 ^ (k - j) * 2 ^ j
pow_split j k h =
    let whole : (k - j) + j ≡ k = omega arith in
    ap (λ (x : ℕ). 2 ^ x) (sym whole) ∙ pow-add 2 (k - j) j

shr_split_at : (p j k : ℕ) → j ≤ k → p / 2 ^ k ≡ p / 2 ^ j / 2 ^ (k - j)
shr_split_at p j k h =
    let whole : j + (k - j) ≡ k = omega arith in
    ap (λ (x : ℕ). p / 2 ^ x) (sym whole) ∙ sym (shr-shr p j (k - j))

around_split : (p j k : ℕ) → j ≤ k → around p k ≡ p / 2 ^ j / 2 ^ (k - j) * (2 ^ (k - j) * 2 ^ j)
around_split p j k h =
    ap (λ (x : ℕ). x * 2 ^ k) (shr_split_at p j k h) ∙ ap (λ (x : ℕ). p / 2 ^ j / 2 ^ (k - j) * x) (pow_split j k h)

-- of two blocks around one place, the smaller lies in the larger
pub nested_begin : (p j k : ℕ) → j ≤ k → around p k ≤ around p j
nested_begin p j k h = rw (around_split p j k h) (nested_low (p / 2 ^ j) (2 ^ j) (2 ^ (k - j)))

pub nested_end : (p j k : ℕ) → j ≤ k → around p j + 2 ^ j ≤ around p k + 2 ^ k
nested_end p j k h =
    omega (arith, around_split p j k h, pow_split j k h, nested_high (p / 2 ^ j) (2 ^ j) (2 ^ (k - j)) (pow_pos (k - j)))

-- where a block begins, one of each smaller order does
pub aligned_smaller : (p j k : ℕ) → j ≤ k → around p k ≡ p → around p j ≡ p
aligned_smaller p j k h e = omega (arith, nested_begin p j k h, around_low p j)

pub pow_double : (k : ℕ) → 2 ^ (k + 1) ≡ 2 ^ k + 2 ^ k
pow_double k = pow-add 2 k 1 ∙ omega arith

-- a block is the lower or the upper half of the one around it of the next order
pub parent_cases : (p k : ℕ) → around p k ≡ p → (around p (k + 1) ≡ p) ⊎ (around p (k + 1) + 2 ^ k ≡ p)
parent_cases p k e =
    let half : p / 2 ^ (k + 1) ≡ p / 2 ^ k / 2 = sym (shr-shr p k 1) in
    let whole : around p (k + 1) ≡ p / 2 ^ k / 2 * (2 ^ k + 2 ^ k) =
    ap (λ (x : ℕ). x * 2 ^ (k + 1)) half ∙ ap (λ (x : ℕ). p / 2 ^ k / 2 * x) (pow_double k)
    in
    parent_of (p / 2 ^ k) (2 ^ k) p (around p (k + 1)) e whole
  where
    even_or_odd : (q : ℕ) → (q ≡ 2 * (q / 2)) ⊎ (q ≡ 2 * (q / 2) + 1)
    even_or_odd q =
        elim (cases_lt (q % 2) 1) [
          | inl even ↦ inl (omega arith)
          | inr odd ↦ inr (omega arith)
        ]

    parent_of : (q d p parent : ℕ) → q * d ≡ p → parent ≡ q / 2 * (d + d) → (parent ≡ p) ⊎ (parent + d ≡ p)
    parent_of q d p parent e w =
        elim (even_or_odd q) [
          | inl h ↦ inl (w ∙ omega (arith, ap (λ (x : ℕ). x * d) h))
          | inr h ↦ inr (omega (arith, ap (λ (x : ℕ). x * d) h))
        ]

-- the upper half of a block begins where a block of the half's order does
pub upper_half : (p k : ℕ) → around p (k + 1) ≡ p → around (p + 2 ^ k) k ≡ p + 2 ^ k
upper_half p k e =
    let own : around p k ≡ p = aligned_smaller p k (k + 1) (omega arith) e in
    let as_times : (p / 2 ^ k + 1) * 2 ^ k ≡ p + 2 ^ k = omega arith in
    subst (λ (x : ℕ). around x k ≡ x) as_times (around_times (p / 2 ^ k + 1) k)

-- a block that begins inside an arena of whole blocks ends inside
pub multiple_fits : (p k count : ℕ) → around p k ≡ p → p < count * 2 ^ k → p + 2 ^ k ≤ count * 2 ^ k
multiple_fits p k count e h =
    elim (cases_lt (p / 2 ^ k) count) [
      | inl below ↦ omega (arith, mul-le-mul_right (2 ^ k) (suc_le (p / 2 ^ k) count below))
      | inr above ↦ absurd (omega (arith, mul-le-mul_right (2 ^ k) above))
    ]
  where
    suc_le : (a b : ℕ) → a < b → a + 1 ≤ b
    suc_le a b h = omega arith

-- the upper half lies in the block that begins at the lower half
pub around_upper : (q k : ℕ) → around q (k + 1) ≡ q → around (q + 2 ^ k) (k + 1) ≡ q
around_upper q k e =
    let less : 2 ^ k < 2 ^ (k + 1) = omega (arith, pow_double k, pow_pos k) in
    let same : (q / 2 ^ (k + 1) * 2 ^ (k + 1) + 2 ^ k) / 2 ^ (k + 1) ≡ q / 2 ^ (k + 1) = div-mul-add (q / 2 ^ (k + 1)) (2 ^ (k + 1)) (2 ^ k) less in
    let start : q / 2 ^ (k + 1) * 2 ^ (k + 1) + 2 ^ k ≡ q + 2 ^ k = ap (λ (x : ℕ). x + 2 ^ k) e in
    ap (λ (x : ℕ). x * 2 ^ (k + 1)) (ap (λ (x : ℕ). x / 2 ^ (k + 1)) (sym start) ∙ same) ∙ e

-- a block that fits in 64 places has an order up to 6
pub order_within : (k : ℕ) → 2 ^ k ≤ 64 → k ≤ 6
order_within k h =
    elim (cases_lt 6 k) [
      | inl above ↦ absurd (omega (arith, large k above))
      | inr within ↦ within
    ]
  where
    large : (k : ℕ) → 6 < k → 128 ≤ 2 ^ k
    large k h = let up : 7 ≤ k = omega arith in pow_mono up

-- a block is a block of each smaller order
pub smaller_block : (size place order smaller : ℕ) → smaller ≤ order → IsBlock size place order → IsBlock size place smaller
smaller_block size place order smaller h block =
    let within : 2 ^ smaller ≤ 2 ^ order = pow_mono h in
    record { aligned = aligned_smaller place smaller order h block.aligned; inside = omega (arith, block.inside) }

-- a block up to order 6 lies in one arena of 64 places
pub block_in_arena : (place order : ℕ) → order ≤ 6 → around place order ≡ place → IsBlock 64 (place % 64) order
block_in_arena place order h own =
    let arena : (6 - order) + order ≡ 6 = omega arith in
    let whole : 2 ^ (6 - order) * 2 ^ order ≡ 64 = sym (pow-add 2 (6 - order) order) ∙ ap (λ (x : ℕ). 2 ^ x) arena in
    let rest : place % 2 ^ order ≡ 0 = omega (arith, shr_split place order) in
    let times : place % 64 ≡ place / 2 ^ order % 2 ^ (6 - order) * 2 ^ order =
    ap (λ (x : ℕ). place % 2 ^ x) (sym arena) ∙ mod-pow-add place (6 - order) order ∙ omega (arith, rest)
    in
    let begins : around (place % 64) order ≡ place % 64 =
    subst (λ (x : ℕ). around x order ≡ x) (sym times) (around_times (place / 2 ^ order % 2 ^ (6 - order)) order)
    in
    let below : place % 64 < 2 ^ (6 - order) * 2 ^ order = omega (arith, whole) in
    record { aligned = begins; inside = omega (arith, whole, multiple_fits (place % 64) order (2 ^ (6 - order)) begins below) }

pub covers_in_arena : (place order p : ℕ) → order ≤ 6 → around place order ≡ place →
    (p / 64 ≡ place / 64 → covers place order p ≡ covers (place % 64) order (p % 64)) × (p / 64 ≢ place / 64 → covers place order p ≡ 0)
covers_in_arena place order p h own =
    let fits = (block_in_arena place order h own).inside in
    (λ same. omega (arith, fits), λ other. omega (arith, fits))
