-- The bits of shifts, of remainders and of a part of a number.
use Rattle.std.proofs.Common.{◌≡◌, ℕ, ◌+◌, ◌-◌, ◌*◌, ◌/◌, ◌%◌, ◌^◌, ◌<◌, ◌≤◌, min, inl, inr, sym, ap, ◌∙◌, subst, arith, add-zero}
use Rattle.std.specs.Prelude.{bit_and, count_ones}
use Rattle.std.specs.Int.{bit_at}
use Rattle.std.specs.Int.Count.{ones}
use Rattle.std.proofs.lemmas.Nat.{shl_whole, shr-shr, shr_split, pow_pos, mod_below, and_block, and_mask, ones_cat}
use Rattle.std.proofs.lemmas.Nat.Bits.{bit_at_above, bit_at_ones, bit_at_ones_above, ones_shr, bit_at-zero, bit_at_cat_low, bit_at_cat_high, same_from_bits_below}
use Rattle.std.proofs.Math.Pow.{ones_lt}
use Rattle.std.proofs.lemmas.Bool.{cases_lt}
use Rattle.buddy_arena.specs.Block.{IsClear}

pub bit_at_shr : (n j i : ℕ) → bit_at (n / 2 ^ j) i ≡ bit_at n (j + i)
bit_at_shr n j i = ap (λ (x : ℕ). x % 2) (shr-shr n j i)

pub bit_at_rest : (n k i : ℕ) → i < k → bit_at (n % 2 ^ k) i ≡ bit_at n i
bit_at_rest n k i h = sym (bit_at_cat_low (n / 2 ^ k) k (n % 2 ^ k) i h) ∙ ap (λ (x : ℕ). bit_at x i) (shr_split n k)

pub bit_at_shl_low : (a k i : ℕ) → i < k → bit_at (a * 2 ^ k) i ≡ 0
bit_at_shl_low a k i h = ap (λ (x : ℕ). bit_at x i) (sym (add-zero (a * 2 ^ k))) ∙ bit_at_cat_low a k 0 i h ∙ bit_at-zero i

pub bit_at_shl_high : (a k i : ℕ) → k ≤ i → bit_at (a * 2 ^ k) i ≡ bit_at a (i - k)
bit_at_shl_high a k i h = ap (λ (x : ℕ). bit_at x i) (sym (add-zero (a * 2 ^ k))) ∙ bit_at_cat_high a k 0 i (pow_pos k) h

rest_zero : (n k : ℕ) → ((i : ℕ) → i < k → bit_at n i ≡ 0) → n % 2 ^ k ≡ 0
rest_zero n k clear =
    same_from_bits_below k (n % 2 ^ k) 0 (mod_below n (2 ^ k) (pow_pos k)) (pow_pos k)
    (λ i h. bit_at_rest n k i h ∙ clear i h ∙ sym (bit_at-zero i))

-- the part of the number that a clear block reads is 0
pub zero_from_clear : (bits place order : ℕ) → IsClear bits place order → bits / 2 ^ place % 2 ^ 2 ^ order ≡ 0
zero_from_clear bits place order c =
    rest_zero (bits / 2 ^ place) (2 ^ order) (λ i h. bit_at_shr bits place i ∙ c.at (place + i) (omega arith) (omega arith))

-- and a block of which that part is 0 is clear
pub clear_from_zero : (bits place order : ℕ) → bits / 2 ^ place % 2 ^ 2 ^ order ≡ 0 → IsClear bits place order
clear_from_zero bits place order zeros = record {
  at = λ p low high.
      let there : place + (p - place) ≡ p = omega arith in
      let in_rest = bit_at_rest (bits / 2 ^ place) (2 ^ order) (p - place) (omega arith) in
      subst (λ (x : ℕ). bit_at bits x ≡ 0) there
      (sym (bit_at_shr bits place (p - place)) ∙ sym in_rest ∙ ap (λ (x : ℕ). bit_at x (p - place)) zeros ∙ bit_at-zero (p - place));
}

-- what a word and the mask of n bits from `place` on share
pub and_part : (bits place n : ℕ) → bit_and bits ((2 ^ n - 1) * 2 ^ place) ≡ bits / 2 ^ place % 2 ^ n * 2 ^ place
and_part bits place n =
    let low : bits % 2 ^ place < 2 ^ place = mod_below bits (2 ^ place) (pow_pos place) in
    let blocks = and_block place (bits / 2 ^ place) (2 ^ n - 1) (bits % 2 ^ place) 0 low (pow_pos place) in
    let none : bit_and (bits % 2 ^ place) 0 ≡ 0 = and_mask (bits % 2 ^ place) 0 ∙ mod_one (bits % 2 ^ place) in
    ap (λ (x : ℕ). bit_and x ((2 ^ n - 1) * 2 ^ place)) (sym (shr_split bits place))
    ∙ ap (λ (x : ℕ). bit_and (bits / 2 ^ place * 2 ^ place + bits % 2 ^ place) x) (sym (add-zero ((2 ^ n - 1) * 2 ^ place)))
    ∙ blocks
    ∙ ap (λ (x : ℕ). bit_and (bits / 2 ^ place) (2 ^ n - 1) * 2 ^ place + x) none
    ∙ add-zero (bit_and (bits / 2 ^ place) (2 ^ n - 1) * 2 ^ place)
    ∙ ap (λ (x : ℕ). x * 2 ^ place) (and_mask (bits / 2 ^ place) n)
  where
    mod_one : (x : ℕ) → x % 1 ≡ 0
    mod_one x = omega arith

-- a shift to the left leaves the number of ones as it is
pub ones_shl : (a k : ℕ) → count_ones (a * 2 ^ k) ≡ count_ones a
unfolding ones
ones_shl a k = ap count_ones (sym (add-zero (a * 2 ^ k))) ∙ ones_cat k a 0 (pow_pos k) ∙ add-zero (count_ones a)

-- the mask of n places, as it is computed
pub mask_value : (n place : ℕ) → n ≤ 64 → place + n ≤ 64 → (2 ^ 64 - 1) / 2 ^ (64 - n) * 2 ^ place % 2 ^ 64 ≡ (2 ^ n - 1) * 2 ^ place
mask_value n place h fits =
    let within : 64 - n ≤ 64 = omega arith in
    let rest : 64 - (64 - n) ≡ n = omega arith in
    ap (λ (x : ℕ). x * 2 ^ place % 2 ^ 64) (ones_shr 64 (64 - n) within ∙ ap (λ (x : ℕ). 2 ^ x - 1) rest)
    ∙ shl_whole (2 ^ n - 1) n place 64 (ones_lt n) (omega arith)

-- its bits are 1 at the n places from `place` on
pub mask_bits : (n place p : ℕ) → bit_at ((2 ^ n - 1) * 2 ^ place) p ≡ min (min 1 (p + 1 - place)) (place + n - p)
mask_bits n place p =
    elim (cases_lt p place) [
      | inl before ↦ bit_at_shl_low (2 ^ n - 1) place p before ∙ omega arith
      | inr from ↦
          elim (cases_lt (p - place) n) [
            | inl inside ↦ bit_at_shl_high (2 ^ n - 1) place p from ∙ bit_at_ones n (p - place) inside ∙ omega arith
            | inr after ↦ bit_at_shl_high (2 ^ n - 1) place p from ∙ bit_at_ones_above n (p - place) after ∙ omega arith
          ]
    ]

-- a number of 64 bits has none from 64 on
pub bit_below_64 : (n p : ℕ) → n < 2 ^ 64 → bit_at n p ≡ 1 → p < 64
bit_below_64 n p h one =
    elim (cases_lt p 64) [
      | inl below ↦ below
      | inr above ↦ absurd (omega (arith, bit_at_above n 64 p h above))
    ]
