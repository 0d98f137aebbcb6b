-- Words as sets of places: the clear blocks of order 0, those of the next order, the aligned places and the free blocks.
use Rattle.std.proofs.Common.{◌≡◌, ℕ, ◌+◌, ◌-◌, ◌*◌, ◌/◌, ◌%◌, ◌^◌, ◌<◌, ◌≤◌, inl, inr, Bool, true, ◌&&◌, eqb, leb, sym, ◌∙◌, subst, arith}
use Rattle.std.specs.Prelude.{bit_and, bit_or}
use Rattle.std.specs.Int.{w64, bit_at, bit_not}
use Rattle.std.proofs.lemmas.Nat.{pow_pos}
use Rattle.std.proofs.lemmas.Nat.Bits.{bit_at-lt, bit_at_and, bit_at_or, bit_at_not}
use Rattle.std.proofs.lemmas.Bool.{agree_below, agree_below_at, cases_lt, eqb-true, eq-eqb, leb-true, le-leb, and_parts, and_from}
use Rattle.buddy_arena.specs.Block.{around, IsBlock, IsClear}
use Rattle.buddy_arena.specs.Buddy.{IsClearBlock, IsFree}
use Rattle.buddy_arena.specs.Sets.{IsSetOf}
use Rattle.buddy_arena.proofs.BitLemmas.{bit_at_shr, bit_at_rest, bit_at_shl_low, bit_at_shl_high, bit_below_64}
use Rattle.buddy_arena.proofs.BlockLemmas.{aligned_smaller, pow_double, parent_cases, upper_half, around_upper}
use Rattle.buddy_arena.proofs.FreeLemmas.{free_from_parent, parent_of_free}

-- the places that aren't taken are the clear blocks of order 0
pub clear_places : (word : ℕ) → word < 2 ^ 64 → IsSetOf (bit_not w64 word) (λ p. IsClearBlock 64 word p 0)
clear_places word h = record {
  holds = λ p one.
      let below : p < 64 = bit_below_64 (bit_not w64 word) p (omega (arith, h)) one in
      let zero_here : bit_at word p ≡ 0 = omega (arith, bit_at_not w64 word p h below, bit_at-lt word p) in
      record {
        block = record { aligned = omega arith; inside = omega arith };
        clear = record {
          at = λ q low high.
              let same : p ≡ q = omega arith in
              subst (λ (x : ℕ). bit_at word x ≡ 0) same zero_here;
        };
      };
  has = λ p clear.
      let below : p < 64 = omega (arith, clear.block.inside) in
      omega (arith, bit_at_not w64 word p h below, clear.clear.at p (omega arith) (omega arith));
}

-- the two halves of a clear block are clear, and two clear halves make one
pub larger_set : (clear aligned bits k : ℕ) → IsSetOf aligned (λ p. IsBlock 64 p (k + 1)) → IsSetOf clear (λ p. IsClearBlock 64 bits p k) →
    IsSetOf (bit_and (bit_and clear (clear / 2 ^ 2 ^ k)) aligned) (λ p. IsClearBlock 64 bits p (k + 1))
larger_set clear aligned bits k blocks halves = record {
  holds = λ p one.
      let both = bit_at_and (bit_and clear (clear / 2 ^ 2 ^ k)) aligned p in
      let each = bit_at_and clear (clear / 2 ^ 2 ^ k) p in
      let low : bit_at clear p ≡ 1 = omega (arith, both, each, bit_at-lt clear p) in
      let shifted : bit_at (clear / 2 ^ 2 ^ k) p ≡ 1 = omega (arith, both, each, bit_at-lt (clear / 2 ^ 2 ^ k) p) in
      let high : bit_at clear (2 ^ k + p) ≡ 1 = sym (bit_at_shr clear (2 ^ k) p) ∙ shifted in
      let begins : bit_at aligned p ≡ 1 = omega (arith, both, each, bit_at-lt aligned p) in
      let lower = halves.holds p low in
      let upper = halves.holds (2 ^ k + p) high in
      record {
        block = blocks.holds p begins;
        clear = record { at = λ q from below. joined bits p k lower.clear upper.clear q from (omega (arith, pow_double k)) };
      };
  has = λ p clear_block.
      let own = clear_block.block in
      let lower : IsClearBlock 64 bits p k = record {
        block = record { aligned = aligned_smaller p k (k + 1) (omega arith) own.aligned; inside = omega (arith, own.inside, pow_double k) };
        clear = record { at = λ q from below. clear_block.clear.at q from (omega (arith, pow_double k)) };
      } in
      let same : p + 2 ^ k ≡ 2 ^ k + p = omega arith in
      let upper : IsClearBlock 64 bits (2 ^ k + p) k = record {
        block = record { aligned = subst (λ (x : ℕ). around x k ≡ x) same (upper_half p k own.aligned); inside = omega (arith, own.inside, pow_double k) };
        clear = record { at = λ q from below. clear_block.clear.at q (omega arith) (omega (arith, pow_double k)) };
      } in
      omega (
        arith,
        bit_at_and (bit_and clear (clear / 2 ^ 2 ^ k)) aligned p,
        bit_at_and clear (clear / 2 ^ 2 ^ k) p,
        halves.has p lower,
        bit_at_shr clear (2 ^ k) p,
        halves.has (2 ^ k + p) upper,
        blocks.has p own,
      );
}
  where
    joined : (bits p k : ℕ) → IsClear bits p k → IsClear bits (2 ^ k + p) k → (q : ℕ) → p ≤ q → q < p + (2 ^ k + 2 ^ k) → bit_at bits q ≡ 0
    joined bits p k lower upper q from below =
        elim (cases_lt q (p + 2 ^ k)) [
          | inl here ↦ lower.at q from here
          | inr there ↦ upper.at q (omega arith) (omega arith)
        ]

-- a word that has bit p set just where a block of the order begins, by looking at each of the 64 places
pub aligned_set : (set k : ℕ) → set < 2 ^ 64 → agree_below (λ p. eqb (bit_at set p) 1) (λ p. eqb (around p k) p && leb (p + 2 ^ k) 64) 64 ≡ true →
    IsSetOf set (λ p. IsBlock 64 p k)
aligned_set set k h table = record {
  holds = λ p one.
      let below = bit_below_64 set p h one in
      let test = sym (agree_below_at (λ p. eqb (bit_at set p) 1) (λ p. eqb (around p k) p && leb (p + 2 ^ k) 64) 64 p table below) ∙ eq-eqb (bit_at set p) 1 one in
      let parts = and_parts (eqb (around p k) p) (leb (p + 2 ^ k) 64) test in
      record { aligned = eqb-true (around p k) p parts.0; inside = leb-true (p + 2 ^ k) 64 parts.1 };
  has = λ p block.
      let below : p < 64 = omega (arith, block.inside, pow_pos k) in
      eqb-true (bit_at set p) 1
      (agree_below_at (λ p. eqb (bit_at set p) 1) (λ p. eqb (around p k) p && leb (p + 2 ^ k) 64) 64 p table below
      ∙ and_from (eqb (around p k) p) (leb (p + 2 ^ k) 64) (eq-eqb (around p k) p block.aligned) (le-leb (p + 2 ^ k) 64 block.inside));
}

-- a half of a larger clear block: the bit of the larger blocks, or that bit shifted to the upper half
module _ (larger bits k : ℕ) (small : k < 6) (blocks : IsSetOf larger (λ p. IsClearBlock 64 bits p (k + 1))) where
  parent_bit : (p : ℕ) → IsBlock 64 p k → IsClearBlock 64 bits (around p (k + 1)) (k + 1) → bit_at (bit_or larger (larger * 2 ^ 2 ^ k % 2 ^ 64)) p ≡ 1
  parent_bit p own big =
      let below : p < 64 = omega (arith, own.inside, pow_pos k) in
      let either = bit_at_or larger (larger * 2 ^ 2 ^ k % 2 ^ 64) p in
      let here = blocks.has (around p (k + 1)) big in
      elim (parent_cases p k own.aligned) [
        | inl same ↦
            let lower : bit_at larger p ≡ 1 = subst (λ (x : ℕ). bit_at larger x ≡ 1) same here in
            omega (arith, either, lower, bit_at-lt (larger * 2 ^ 2 ^ k % 2 ^ 64) p)
        | inr upper ↦
            let back : around p (k + 1) ≡ p - 2 ^ k = omega arith in
            let there : bit_at larger (p - 2 ^ k) ≡ 1 = subst (λ (x : ℕ). bit_at larger x ≡ 1) back here in
            omega (arith, either, there, bit_at_rest (larger * 2 ^ 2 ^ k) 64 p below, bit_at_shl_high larger (2 ^ k) p (omega arith), bit_at-lt larger p)
      ]

  parent_from_bit : (p : ℕ) → IsBlock 64 p k → bit_at (bit_or larger (larger * 2 ^ 2 ^ k % 2 ^ 64)) p ≡ 1 → IsClearBlock 64 bits (around p (k + 1)) (k + 1)
  parent_from_bit p own one =
      let below : p < 64 = omega (arith, own.inside, pow_pos k) in
      let either = bit_at_or larger (larger * 2 ^ 2 ^ k % 2 ^ 64) p in
      let cut = bit_at_rest (larger * 2 ^ 2 ^ k) 64 p below in
      elim (cases_lt 0 (bit_at larger p)) [
        | inl lower ↦
            let here = blocks.holds p (omega (arith, bit_at-lt larger p)) in
            subst (λ (x : ℕ). IsClearBlock 64 bits x (k + 1)) (sym here.block.aligned) here
        | inr none ↦
            elim (cases_lt p (2 ^ k)) [
              | inl first ↦ absurd (omega (arith, either, cut, bit_at_shl_low larger (2 ^ k) p first))
              | inr from ↦
                  let there : bit_at larger (p - 2 ^ k) ≡ 1 = omega (arith, either, cut, bit_at_shl_high larger (2 ^ k) p from) in
                  let big = blocks.holds (p - 2 ^ k) there in
                  let place : (p - 2 ^ k) + 2 ^ k ≡ p = omega arith in
                  let parent : around p (k + 1) ≡ p - 2 ^ k =
                  subst (λ (x : ℕ). around x (k + 1) ≡ p - 2 ^ k) place (around_upper (p - 2 ^ k) k big.block.aligned) in
                  subst (λ (x : ℕ). IsClearBlock 64 bits x (k + 1)) (sym parent) big
            ]
      ]

-- the clear blocks that are no half of a larger one are the free blocks
pub free_set : (clear larger bits k : ℕ) → k < 6 → bit_or larger (larger * 2 ^ 2 ^ k % 2 ^ 64) < 2 ^ 64 →
    IsSetOf clear (λ p. IsClearBlock 64 bits p k) → IsSetOf larger (λ p. IsClearBlock 64 bits p (k + 1)) →
    IsSetOf (bit_and clear (bit_not w64 (bit_or larger (larger * 2 ^ 2 ^ k % 2 ^ 64)))) (λ p. IsFree 64 bits p k)
free_set clear larger bits k small fits own next = record {
  holds = λ p one.
      let both = bit_at_and clear (bit_not w64 (bit_or larger (larger * 2 ^ 2 ^ k % 2 ^ 64))) p in
      let kept : bit_at clear p ≡ 1 = omega (arith, both, bit_at-lt clear p) in
      let here = own.holds p kept in
      let below : p < 64 = omega (arith, here.block.inside, pow_pos k) in
      let outside = bit_at_not w64 (bit_or larger (larger * 2 ^ 2 ^ k % 2 ^ 64)) p fits below in
      free_from_parent 64 bits p k here (λ big. omega (arith, both, outside, parent_bit larger bits k small next p here.block big));
  has = λ p free.
      let here = free.here in
      let below : p < 64 = omega (arith, here.block.inside, pow_pos k) in
      let both = bit_at_and clear (bit_not w64 (bit_or larger (larger * 2 ^ 2 ^ k % 2 ^ 64))) p in
      let outside = bit_at_not w64 (bit_or larger (larger * 2 ^ 2 ^ k % 2 ^ 64)) p fits below in
      let kept = own.has p here in
      elim (cases_lt 0 (bit_at (bit_or larger (larger * 2 ^ 2 ^ k % 2 ^ 64)) p)) [
        | inl some ↦
            let one : bit_at (bit_or larger (larger * 2 ^ 2 ^ k % 2 ^ 64)) p ≡ 1 = omega (arith, bit_at-lt (bit_or larger (larger * 2 ^ 2 ^ k % 2 ^ 64)) p) in
            absurd (parent_of_free 64 bits p k free (parent_from_bit larger bits k small next p here.block one))
        | inr none ↦ omega (arith, both, outside, kept)
      ];
}
