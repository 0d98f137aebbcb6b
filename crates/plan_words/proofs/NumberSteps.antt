-- A number, digit by digit.
use Rattle.std.proofs.Common.{◌≡◌, ℕ, ◌+◌, ◌-◌, ◌*◌, ◌<◌, ◌≤◌, List, [], ◌∷◌, length, Bool, true, false, ◌&&◌, not, ◌==◌, nat_le, Some, None, if◌then◌else◌, refl, sym, ap, ◌∙◌, arith, lt-ltb, le-ltb}
use Rattle.std.specs.Char.{is_ascii_digit, digit_value}
use Rattle.std.specs.List.{list_all}
use Rattle.std.specs.Str.Parse.{digits_value, digits_value_after}
use Rattle.std.proofs.lemmas.Bool.Decides.{nat_tests}
use Rattle.plan_words.specs.Literals.{is_numeral, number_up_to}

pub both : (a b : Bool) → (a && b) ≡ true → (a ≡ true) × (b ≡ true)
both true b h = (refl, h)
both false b h = absurd cc

pub digit_low : (b : ℕ) → is_ascii_digit b ≡ true → 48 ≤ b
digit_low b h = grind (arith, nat_tests)

pub digit_high : (b : ℕ) → is_ascii_digit b ≡ true → b ≤ 57
digit_high b h = grind (arith, nat_tests)

pub digit_value_is : (b : ℕ) → is_ascii_digit b ≡ true → digit_value b ≡ b - 48
digit_value_is b h =
    let low : 48 ≤ b = digit_low b h in
    let high : b < 58 = omega (arith, digit_high b h) in
    rw (le-ltb b 48 low) (rw (lt-ltb b 58 high) refl)

-- more digits make no smaller number
grows : (n : ℕ) (ds : List ℕ) → n ≤ digits_value_after 10 n ds
grows n [] = omega arith
grows n (c ∷ ds) = omega (arith, grows (n * 10 + digit_value c) ds)

-- `value` was read from the front of the digits, and `rest` are left
pub record SoFar (most : ℕ) (digits : List ℕ) (value : ℕ) (rest : List ℕ) : Type 0 where
  pub all_digits : list_all is_ascii_digit rest ≡ true
  pub goes : digits_value_after 10 value rest ≡ digits_value 10 digits
  pub small : value ≤ most

numeral-digits : (digits : List ℕ) → is_numeral digits ≡ true → list_all is_ascii_digit digits ≡ true
numeral-digits [] h = refl
numeral-digits (b ∷ []) h = h
numeral-digits (b ∷ c ∷ digits) h = (both (not (b == 48)) (list_all is_ascii_digit (b ∷ c ∷ digits)) h).1

pub begins : (most : ℕ) (digits : List ℕ) → is_numeral digits ≡ true → SoFar most digits 0 digits
begins most digits h = record { all_digits = numeral-digits digits h; goes = refl; small = omega arith }

pub first_digit : (most : ℕ) (digits : List ℕ) (value : ℕ) (b : ℕ) (after : List ℕ) → SoFar most digits value (b ∷ after) → is_ascii_digit b ≡ true
first_digit most digits value b after so = (both (is_ascii_digit b) (list_all is_ascii_digit after) so.all_digits).0

next-value : (most : ℕ) (digits : List ℕ) (value : ℕ) (b : ℕ) (after : List ℕ) → SoFar most digits value (b ∷ after)
    → digits_value_after 10 (value * 10 + (b - 48)) after ≡ digits_value 10 digits
next-value most digits value b after so =
    ap (λ (n : ℕ). digits_value_after 10 (value * 10 + n) after) (sym (digit_value_is b (first_digit most digits value b after so))) ∙ so.goes

pub goes_on : (most : ℕ) (digits : List ℕ) (value : ℕ) (b : ℕ) (after : List ℕ) → SoFar most digits value (b ∷ after)
    → value * 10 + (b - 48) ≤ most → SoFar most digits (value * 10 + (b - 48)) after
goes_on most digits value b after so fits = record {
  all_digits = (both (is_ascii_digit b) (list_all is_ascii_digit after) so.all_digits).1;
  goes = next-value most digits value b after so;
  small = fits;
}

decided : (most : ℕ) (digits : List ℕ) (s t : Bool) → is_numeral digits ≡ s → nat_le (digits_value 10 digits) most ≡ t
    → number_up_to most digits ≡ (if s && t then Some (digits_value 10 digits) else None)
decided most digits s t e f = rw e (rw f refl)

pub too_large : (most : ℕ) (digits : List ℕ) (value : ℕ) (b : ℕ) (after : List ℕ) → is_numeral digits ≡ true → SoFar most digits value (b ∷ after)
    → most < value * 10 + (b - 48) → number_up_to most digits ≡ None
too_large most digits value b after numeral so over =
    let more : most < digits_value 10 digits =
    omega (arith, over, grows (value * 10 + (b - 48)) after, next-value most digits value b after so) in
    let no : nat_le (digits_value 10 digits) most ≡ false = grind (arith, nat_tests) in
    decided most digits true false numeral no

pub whole : (most : ℕ) (digits : List ℕ) (value : ℕ) (rest : List ℕ) → is_numeral digits ≡ true → length rest ≡ 0 → SoFar most digits value rest
    → number_up_to most digits ≡ Some value
whole most digits value [] numeral none so =
    let small : digits_value 10 digits ≤ most = omega (arith, so.goes, so.small) in
    let yes : nat_le (digits_value 10 digits) most ≡ true = grind (arith, nat_tests) in
    decided most digits true true numeral yes ∙ ap Some (sym so.goes)
whole most digits value (b ∷ rest) numeral none so = absurd (omega (arith, none))

pub none : (most : ℕ) (digits : List ℕ) → is_numeral digits ≡ false → number_up_to most digits ≡ None
none most digits e = rw e refl
