-- A text that passed the range of an option reads as the number that it spells.
use Rattle.std.proofs.Common.{◌≡◌, ◌∙◌, ◌<◌, ◌^◌, ap, ℕ, Bool, true, false, List, [], ◌∷◌, cond, drop, Option, Some, None, refl, sym, subst, arith}
use Rattle.std.specs.Prelude.{◌≤ℤ◌, Err, Ok, Result, neg_ℤ, option_map, pos, unwrap_or, ◌==◌}
use Rattle.std.specs.Str.Parse.{IsNumeral, ParsesUnsigned, digits_value, signed_digits_value, starts_with_minus, without_leading_plus}
use Rattle.std.proofs.lemmas.Int.{ints}
use Rattle.std.proofs.lemmas.Str.Parse.{digit_from_value, without_leading_plus_none}
use Rattle.clap.specs.Words.{ReadsOne, without_minus}
use Rattle.clap.specs.Values.{IsSignedIn}

no_minus : (t : List ℕ) → without_minus t ≡ cond (starts_with_minus t) (drop 1 t) t
no_minus [] = refl
no_minus (x ∷ xs) = go (x == 45)
  where
    go : (b : Bool) → unwrap_or (cond b (Some xs) None) (x ∷ xs) ≡ cond b xs (x ∷ xs)
    go true = refl
    go false = refl

no_plus : (ds : List ℕ) → IsNumeral 10 ds → without_leading_plus ds ≡ ds
no_plus [] h = refl
no_plus (d ∷ ds) h = without_leading_plus_none (d ∷ ds) (λ e. omega (arith, e, digit_from_value d h.1.0))

module _ (E : Type 0) (G : List ℕ → Result ℕ E → Type 0) (only : (u : List ℕ) (x : Result ℕ E) → G u x → ParsesUnsigned 32 10 u x) where
  -- digits of a small number are read as that number
  digits_read : (ds text : List ℕ) (r : Option ℕ) → without_leading_plus text ≡ ds → IsNumeral 10 ds → digits_value 10 ds < 2 ^ 32
      → ReadsOne G text r → Some (digits_value 10 ds) ≡ r
  digits_read ds text (Some n) same numeral small h =
      let parsed = only text (Ok n) h in
      ap Some (ap (digits_value 10) (sym same) ∙ sym parsed.1)
  digits_read ds text None same numeral small h =
      absurd (only text (Err h.0) h.1 (rw same numeral, rw same small))

  signed_read : (b : Bool) (low high : ℕ) (t : List ℕ) (r : Option ℕ) → high < 2 ^ 32
      → IsNumeral 10 (cond b (drop 1 t) (without_leading_plus t))
      → pos low ≤ℤ cond b (neg_ℤ (pos (digits_value 10 (cond b (drop 1 t) (without_leading_plus t))))) (pos (digits_value 10 (cond b (drop 1 t) (without_leading_plus t))))
      → cond b (neg_ℤ (pos (digits_value 10 (cond b (drop 1 t) (without_leading_plus t))))) (pos (digits_value 10 (cond b (drop 1 t) (without_leading_plus t)))) ≤ℤ pos high
      → ReadsOne G (cond b (drop 1 t) t) r
      → Some (cond b (neg_ℤ (pos (digits_value 10 (cond b (drop 1 t) (without_leading_plus t))))) (pos (digits_value 10 (cond b (drop 1 t) (without_leading_plus t)))))
      ≡ option_map pos r
  signed_read true low high t r fits numeral least most h =
      let none : digits_value 10 (drop 1 t) ≡ 0 = omega (arith, ints, least) in
      let small : digits_value 10 (drop 1 t) < 2 ^ 32 = omega (arith, none) in
      let is = digits_read (drop 1 t) (drop 1 t) r (no_plus (drop 1 t) numeral) numeral small h in
      ap (λ (n : ℕ). Some (neg_ℤ (pos n))) none ∙ ap (λ (n : ℕ). Some (pos n)) (sym none) ∙ ap (option_map pos) is
  signed_read false low high t r fits numeral least most h =
      let small : digits_value 10 (without_leading_plus t) < 2 ^ 32 = omega (arith, ints, fits, most) in
      ap (option_map pos) (digits_read (without_leading_plus t) t r refl numeral small h)

  pub number_read : (low high : ℕ) (t : List ℕ) (r : Option ℕ) → high < 2 ^ 32 → IsSignedIn (pos low) (pos high) t → ReadsOne G (without_minus t) r
      → Some (signed_digits_value 10 t) ≡ option_map pos r
  number_read low high t r fits passed h =
      signed_read (starts_with_minus t) low high t r fits passed.0 passed.2 passed.3
      (subst (λ (u : List ℕ). ReadsOne G u r) (no_minus t) h)
