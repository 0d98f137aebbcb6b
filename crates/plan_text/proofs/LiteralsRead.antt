-- Literals are read as they are written.
use Rattle.std.proofs.Common.{◌≡◌, ℕ, zero, suc, ◌-◌, ◌<◌, ◌≤◌, ◌^◌, List, [], ◌∷◌, ◌++◌, length, Bool, true, false, ◌==◌, ◌&&◌, nat_le, ℤ, pos, negsuc, Some, option_map, Ok, refl, sym, ap, subst, ◌∙◌, arith, eqb-true, ne_eqb, codes, get_or, ◌⊎◌, inl, inr}
use Rattle.std.specs.Char.{is_ascii_digit}
use Rattle.std.specs.Fmt.{decimal, signed_decimal}
use Rattle.std.specs.List.{list_all}
use Rattle.std.specs.Str.{all_ascii_digits}
use Rattle.std.specs.Str.Parse.{digits_value}
use Rattle.std.proofs.lemmas.Bool.Decides.{nat_tests}
use Rattle.std.proofs.lemmas.Fmt.{decimal_nonempty, decimal_digit, first_decimal, digits_decimal, digits_value-decimal}
use Rattle.std.proofs.lemmas.Str.Parse.{IsNumeralModel, numerals_by_value, tells_all_ascii_digits}
use Rattle.orc_values.specs.declared.value.Value.{Value}
use Rattle.orc_values.specs.declared.value.Value.TheVariants as value
use Rattle.plan_words.specs.Words.{is_blank, skip_blanks, word_len, with_byte, text_at}
use Rattle.plan_words.specs.Literals.{is_numeral, number_up_to, number_of, number_or_fault, plain_literal, unquoted, literal_at, literal}
use Rattle.plan_text.specs.Written.{spaced, closed_text, literal_text}
use Rattle.plan_text.specs.Plain.{IsLiteral}
use Rattle.plan_text.proofs.WordsRead.{both, is_solid, IsWord, Ends, word_first}

-- ---- numbers

abbrev digits_told : List ℕ → Type 0
digits_told ds = all_ascii_digits ds ≡ true

own : IsNumeralModel digits_told (digits_value 10)
own = numerals_by_value digits_told tells_all_ascii_digits

told-all : (ds : List ℕ) → all_ascii_digits ds ≡ list_all is_ascii_digit ds
told-all [] = refl
told-all (b ∷ ds) = ap (λ (t : Bool). is_ascii_digit b && t) (told-all ds)

all-digits : (n : ℕ) → n < 2 ^ 64 → list_all is_ascii_digit (decimal n) ≡ true
all-digits n h = sym (told-all (decimal n)) ∙ digits_decimal own n h

numeral-by : (ds : List ℕ) → 0 < length ds → (get_or ds 0 0 ≡ 48 → length ds ≡ 1) → list_all is_ascii_digit ds ≡ true → is_numeral ds ≡ true
numeral-by [] some lead all = absurd (omega (arith, some))
numeral-by (b ∷ []) some lead all = all
numeral-by (b ∷ c ∷ ds) some lead all =
    let no : (b == 48) ≡ false = ne_eqb b 48 (λ e. omega (arith, lead e)) in
    rw no all

lead : (n : ℕ) → n < 2 ^ 64 → get_or (decimal n) 0 0 ≡ 48 → length (decimal n) ≡ 1
lead zero h e = ap length (decimal_digit 0 (omega arith))
lead (suc n) h e = absurd (omega (arith, first_decimal (suc n) (omega arith) h, e))

is-numeral : (n : ℕ) → n < 2 ^ 64 → is_numeral (decimal n) ≡ true
is-numeral n h = numeral-by (decimal n) (decimal_nonempty n h) (lead n h) (all-digits n h)

up-to : (most n : ℕ) → n < 2 ^ 64 → n ≤ most → number_up_to most (decimal n) ≡ Some n
up-to most n h le =
    let v : digits_value 10 (decimal n) ≡ n = digits_value-decimal own n h in
    let fits : nat_le n most ≡ true = grind (arith, nat_tests) in
    rw (is-numeral n h) (rw v (rw fits refl))

digit-no : (b : ℕ) → is_ascii_digit b ≡ true → (b == 45) ≡ false
digit-no b h = grind (arith, nat_tests)

positive-by : (ds : List ℕ) (n : ℕ) → 0 < length ds → list_all is_ascii_digit ds ≡ true → number_up_to (2 ^ 63 - 1) ds ≡ Some n → number_of ds ≡ Some (pos n)
positive-by [] n some all e = absurd (omega (arith, some))
positive-by (b ∷ ds) n some all e =
    let parts = both (is_ascii_digit b) (list_all is_ascii_digit ds) all in
    rw (digit-no b parts.0) (ap (option_map pos) e)

pub number_is : (z : ℤ) → IsLiteral (value.Int z) → number_of (signed_decimal z) ≡ Some z
number_is (pos n) h =
    positive-by (decimal n) n (decimal_nonempty n (omega (arith, h))) (all-digits n (omega (arith, h))) (up-to (2 ^ 63 - 1) n (omega (arith, h)) (omega (arith, h)))
number_is (negsuc n) h = rw (up-to (2 ^ 63) (suc n) (omega (arith, h)) (omega (arith, h))) refl

-- the bytes of a number: digits, with a `-` before them or not
abbrev pub IsNumberText : List ℕ → Type 0
IsNumberText [] = ⊥
IsNumberText (b ∷ ds) = ((is_ascii_digit b ≡ true) ⊎ (b ≡ 45)) × (list_all is_ascii_digit ds ≡ true)

number-text-by : (ds : List ℕ) → 0 < length ds → list_all is_ascii_digit ds ≡ true → IsNumberText ds
number-text-by [] some all = absurd (omega (arith, some))
number-text-by (b ∷ ds) some all = let parts = both (is_ascii_digit b) (list_all is_ascii_digit ds) all in (inl parts.0, parts.1)

pub number_text : (z : ℤ) → IsLiteral (value.Int z) → IsNumberText (signed_decimal z)
number_text (pos n) h = number-text-by (decimal n) (decimal_nonempty n (omega (arith, h))) (all-digits n (omega (arith, h)))
number_text (negsuc n) h = (inr refl, all-digits (suc n) (omega (arith, h)))

digit-solid : (b : ℕ) → is_ascii_digit b ≡ true → is_solid b ≡ true
digit-solid b h = grind (arith, nat_tests)

digits-solid : (ds : List ℕ) → list_all is_ascii_digit ds ≡ true → list_all is_solid ds ≡ true
digits-solid [] h = refl
digits-solid (b ∷ ds) h = let parts = both (is_ascii_digit b) (list_all is_ascii_digit ds) h in rw (digit-solid b parts.0) (digits-solid ds parts.1)

-- what begins with such a byte is no quote and no truth value
record Head (b : ℕ) : Type 0 where
  solid : is_solid b ≡ true
  unquoted : (b == 39) ≡ false
  no_true : (b == 116) ≡ false
  no_false : (b == 102) ≡ false
  shown : is_blank b ≡ false

head-digit : (b : ℕ) → is_ascii_digit b ≡ true → Head b
head-digit b h = record {
  solid = digit-solid b h;
  unquoted = grind (arith, nat_tests);
  no_true = grind (arith, nat_tests);
  no_false = grind (arith, nat_tests);
  shown = grind (arith, nat_tests);
}

head-minus : (b : ℕ) → b ≡ 45 → Head b
head-minus b e = subst Head (sym e) (record { solid = refl; unquoted = refl; no_true = refl; no_false = refl; shown = refl })

head-of : (b : ℕ) → (is_ascii_digit b ≡ true) ⊎ (b ≡ 45) → Head b
head-of b (inl h) = head-digit b h
head-of b (inr e) = head-minus b e

unquoted-is : (w rest : List ℕ) (v : Value) → IsWord w → Ends rest → plain_literal w ≡ Ok v → unquoted (w ++ rest) ≡ Ok (v, rest)
unquoted-is w rest v is e p = rw (word_first w rest is e) (rw p refl)

number-read-by : (w rest : List ℕ) (z : ℤ) → IsNumberText w → Ends rest → number_of w ≡ Some z → literal_at (skip_blanks (w ++ rest)) ≡ Ok (value.Int z, rest)
number-read-by [] rest z is e p = absurd is
number-read-by (b ∷ ds) rest z is e p =
    let head = head-of b is.0 in
    let solid : list_all is_solid (b ∷ ds) ≡ true = rw head.solid (digits-solid ds is.1) in
    let plain : plain_literal (b ∷ ds) ≡ Ok (value.Int z) = rw head.no_true (rw head.no_false (ap number_or_fault p)) in
    rw head.shown (rw head.unquoted (unquoted-is (b ∷ ds) rest (value.Int z) (record { some = ne_eqb _ 0 (λ z. omega (arith, z)); solid = solid }) e plain))

-- ---- texts

plain : (b : ℕ) (rest : List ℕ) → (b == 39) ≡ false → text_at (b ∷ rest) ≡ with_byte b (text_at rest)
plain b [] t = rw t refl
plain b (c ∷ rest) t = rw t refl

text-by : (b : ℕ) (bytes rest : List ℕ) (t : Bool) → (b == 39) ≡ t → text_at (closed_text bytes ++ rest) ≡ Some (bytes, rest)
    → text_at (closed_text (b ∷ bytes) ++ rest) ≡ Some (b ∷ bytes, rest)
text-by b bytes rest true t later =
    rw t (ap (with_byte 39) later ∙ ap (λ (c : ℕ). Some (c ∷ bytes, rest)) (sym (eqb-true b 39 t)))
text-by b bytes rest false t later = rw t (plain b (closed_text bytes ++ rest) t ∙ ap (with_byte b) later)

blank-by : (c : ℕ) (rest : List ℕ) (t : Bool) → is_blank c ≡ t → Ends (c ∷ rest) → is_blank c ≡ true
blank-by c rest true t e = t
blank-by c rest false t e =
    let long : word_len (c ∷ rest) ≡ suc (word_len rest) = rw t refl in absurd (omega (arith, long, e))

no-quote : (c : ℕ) → is_blank c ≡ true → (c == 39) ≡ false
no-quote c h = grind (arith, nat_tests)

pub text_is : (bytes rest : List ℕ) → Ends rest → text_at (closed_text bytes ++ rest) ≡ Some (bytes, rest)
text_is [] [] e = refl
text_is [] (c ∷ rest) e = rw (no-quote c (blank-by c rest (is_blank c) refl e)) refl
text_is (b ∷ bytes) rest e = text-by b bytes rest (b == 39) refl (text_is bytes rest e)

pub literal_is : (v : Value) (rest : List ℕ) → IsLiteral v → Ends rest → literal (spaced (literal_text v) rest) ≡ Ok (v, rest)
unfolding literal
literal_is value.Null rest is e = absurd is
literal_is (value.Bool true) rest is e = unquoted-is (codes "true") rest (value.Bool true) (record { some = refl; solid = refl }) e refl
literal_is (value.Bool false) rest is e = unquoted-is (codes "false") rest (value.Bool false) (record { some = refl; solid = refl }) e refl
literal_is (value.Int z) rest is e = number-read-by (signed_decimal z) rest z (number_text z is) e (number_is z is)
literal_is (value.Text bytes) rest is e = rw (text_is bytes rest e) (rw e refl)
