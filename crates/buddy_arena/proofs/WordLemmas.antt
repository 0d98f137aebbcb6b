-- Several words as one number.
use Rattle.std.proofs.Common.{◌≡◌, ℕ, suc, ◌-◌, ◌/◌, ◌%◌, ◌^◌, ◌<◌, inl, inr, List, [], ◌∷◌, get_or, sym, ap, ◌∙◌, arith}
use Rattle.std.specs.Int.{bit_at}
use Rattle.std.proofs.lemmas.Nat.Bits.{bit_at-zero, bit_at_cat_low, bit_at_cat_high}
use Rattle.std.proofs.lemmas.Bool.{cases_lt}
use Rattle.buddy_arena.specs.Words.{joined}

pub bit_at-joined : (words : List ℕ) → ((i : ℕ) → get_or words i 0 < 2 ^ 64) → (p : ℕ) → bit_at (joined words) p ≡ bit_at (get_or words (p / 64) 0) (p % 64)
bit_at-joined [] fits p = bit_at-zero p ∙ sym (bit_at-zero (p % 64))
bit_at-joined (w ∷ ws) fits p =
    elim (cases_lt p 64) [
      | inl first ↦
          let word : 0 ≡ p / 64 = omega arith in
          let bit : p ≡ p % 64 = omega arith in
          bit_at_cat_low (joined ws) 64 w p first
          ∙ ap (λ (x : ℕ). bit_at w x) bit
          ∙ ap (λ (x : ℕ). bit_at (get_or (w ∷ ws) x 0) (p % 64)) word
      | inr later ↦
          let word : suc ((p - 64) / 64) ≡ p / 64 = omega arith in
          let bit : (p - 64) % 64 ≡ p % 64 = omega arith in
          bit_at_cat_high (joined ws) 64 w p (fits 0) later
          ∙ bit_at-joined ws (λ i. fits (suc i)) (p - 64)
          ∙ ap (λ (x : ℕ). bit_at (get_or ws ((p - 64) / 64) 0) x) bit
          ∙ ap (λ (x : ℕ). bit_at (get_or (w ∷ ws) x 0) (p % 64)) word
    ]
