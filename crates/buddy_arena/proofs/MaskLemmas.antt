-- Masks: the bits of a block in a word, set, cleared and tested.
use Rattle.std.proofs.Common.{◌≡◌, ℕ, ◌+◌, ◌-◌, ◌*◌, ◌/◌, ◌%◌, ◌^◌, ◌<◌, inl, inr, sym, ap, ◌∙◌, arith}
use Rattle.std.specs.Prelude.{bit_and, bit_or, count_ones}
use Rattle.std.specs.Int.{w64, bit_at, bit_not}
use Rattle.std.proofs.lemmas.Nat.Bits.{bit_at-lt, bit_at-zero, bit_at_and, bit_at_or, bit_at_not, bit_at_above, same_from_bits}
use Rattle.std.proofs.lemmas.Bool.{cases_lt}
use Rattle.buddy_arena.specs.Block.{IsBlock, covers, IsClear, IsMask}
use Rattle.buddy_arena.specs.Window.{IsMovable, taken_in}
use Rattle.buddy_arena.proofs.BitLemmas.{and_part, ones_shl}

-- a word and a block's mask share no bit exactly where the block is clear
pub clear_from_mask : (bits mask place order : ℕ) → IsMask mask place order → bit_and bits mask ≡ 0 → IsClear bits place order
clear_from_mask bits mask place order m zeros = record {
  at = λ p low high.
      let shared : bit_at (bit_and bits mask) p ≡ 0 = ap (λ (x : ℕ). bit_at x p) zeros ∙ bit_at-zero p in
      omega (arith, shared, bit_at_and bits mask p, m p, bit_at-lt bits p);
}

pub mask_from_clear : (bits mask place order : ℕ) → IsMask mask place order → IsClear bits place order → bit_and bits mask ≡ 0
mask_from_clear bits mask place order m clear = same_from_bits (bit_and bits mask) 0 (λ p. shared bits mask place order m clear p ∙ sym (bit_at-zero p))
  where
    shared : (bits mask place order : ℕ) → IsMask mask place order → IsClear bits place order → (p : ℕ) → bit_at (bit_and bits mask) p ≡ 0
    shared bits mask place order m clear p =
        elim (cases_lt 0 (covers place order p)) [
          | inl inside ↦ omega (arith, bit_at_and bits mask p, clear.at p (omega arith) (omega arith))
          | inr outside ↦ omega (arith, bit_at_and bits mask p, m p)
        ]

-- to set the mask of a clear block takes its places
pub set_mask : (bits mask place order : ℕ) → IsMask mask place order → IsClear bits place order → (p : ℕ) → bit_at (bit_or bits mask) p ≡ bit_at bits p + covers place order p
set_mask bits mask place order m clear p =
    elim (cases_lt 0 (covers place order p)) [
      | inl inside ↦ omega (arith, bit_at_or bits mask p, m p, clear.at p (omega arith) (omega arith))
      | inr outside ↦ omega (arith, bit_at_or bits mask p, m p)
    ]

-- to clear the mask of a block gives its places back
pub clear_mask : (bits mask place order : ℕ) → bits < 2 ^ 64 → mask < 2 ^ 64 → IsMask mask place order → (p : ℕ) → bit_at (bit_and bits (bit_not w64 mask)) p ≡ bit_at bits p - covers place order p
clear_mask bits mask place order bits_fit mask_fits m p =
    elim (cases_lt p 64) [
      | inl below ↦ omega (arith, bit_at_and bits (bit_not w64 mask) p, bit_at_not w64 mask p mask_fits below, m p, bit_at-lt bits p, bit_at-lt mask p)
      | inr above ↦ omega (arith, bit_at_and bits (bit_not w64 mask) p, bit_at_above bits 64 p bits_fit above)
    ]

-- a block is movable where the bits that aren't movable are clear
pub movable_from_clear : (word movable place order : ℕ) → movable < 2 ^ 64 → IsBlock 64 place order → IsClear (bit_and word (bit_not w64 movable)) place order → IsMovable 64 word movable place order
movable_from_clear word movable place order fits block clear = record {
  block = block;
  each = λ p low high one.
      let below : p < 64 = omega (arith, block.inside) in
      omega (arith, clear.at p low high, bit_at_and word (bit_not w64 movable) p, bit_at_not w64 movable p fits below, bit_at-lt movable p);
}

pub clear_from_movable : (word movable place order : ℕ) → movable < 2 ^ 64 → IsMovable 64 word movable place order → IsClear (bit_and word (bit_not w64 movable)) place order
clear_from_movable word movable place order fits candidate = record {
  at = λ p low high.
      let below : p < 64 = omega (arith, candidate.block.inside) in
      let both = bit_at_and word (bit_not w64 movable) p in
      let outside = bit_at_not w64 movable p fits below in
      elim (cases_lt 0 (bit_at word p)) [
        | inl some ↦ omega (arith, both, outside, candidate.each p low high (omega (arith, bit_at-lt word p)))
        | inr none ↦ omega (arith, both)
      ];
}

-- how many bits a word and a block's mask share
pub count_shared : (bits place order : ℕ) → count_ones (bit_and bits ((2 ^ 2 ^ order - 1) * 2 ^ place)) ≡ taken_in bits place order
count_shared bits place order =
    ap count_ones (and_part bits place (2 ^ order)) ∙ ones_shl (bits / 2 ^ place % 2 ^ 2 ^ order) place
