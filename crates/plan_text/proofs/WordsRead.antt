-- Words are read as they are written.
use Rattle.std.proofs.Common.{◌≡◌, ℕ, suc, List, [], ◌∷◌, ◌++◌, length, take, drop, Bool, true, false, not, ◌==◌, ◌&&◌, nat_le, Ok, refl, sym, ap, ◌∙◌, arith, if◌then◌else◌}
use Rattle.std.specs.List.{list_all}
use Rattle.std.specs.Str.{bytes_eq}
use Rattle.std.proofs.lemmas.Bool.Decides.{nat_tests}
use Rattle.plan_words.specs.Words.{is_blank, skip_blanks, word_len}
use Rattle.plan_words.specs.Names.{is_name_byte, is_name, is_hidden, is_file_name}
use Rattle.plan_words.specs.Reading.{word, keyword, option, name, file_name, end_of_line}
use Rattle.plan_text.specs.Written.{spaced}

pub both : (a b : Bool) → (a && b) ≡ true → (a ≡ true) × (b ≡ true)
both true b h = (refl, h)
both false b h = absurd cc

abbrev pub is_solid : ℕ → Bool
is_solid b = not (is_blank b)

-- bytes that make a word: one or more, and no blank
pub record IsWord (w : List ℕ) : Type 0 where
  pub some : (length w == 0) ≡ false
  pub solid : list_all is_solid w ≡ true

-- no word goes on here
abbrev pub Ends : List ℕ → Type 0
Ends rest = word_len rest ≡ 0

solid-len : (w rest : List ℕ) → list_all is_solid w ≡ true → Ends rest → word_len (w ++ rest) ≡ length w
solid-len [] rest h e = e
solid-len (b ∷ w) rest h e = let parts = both (is_solid b) (list_all is_solid w) h in rw parts.0 (ap suc (solid-len w rest parts.1 e))

solid-blank : (b : ℕ) (t : Bool) → is_blank b ≡ t → is_solid b ≡ true → is_blank b ≡ false
solid-blank b true t h = let no : false ≡ true = sym (ap not t) ∙ h in absurd cc
solid-blank b false t h = t

skips : (w rest : List ℕ) → IsWord w → skip_blanks (w ++ rest) ≡ w ++ rest
skips [] rest is = absurd (let e : true ≡ false = is.some in cc)
skips (b ∷ w) rest is =
    let parts = both (is_solid b) (list_all is_solid w) is.solid in
    rw (solid-blank b (is_blank b) refl parts.0) refl

take-front : (w rest : List ℕ) → take (length w) (w ++ rest) ≡ w
take-front [] rest = refl
take-front (b ∷ w) rest = ap (λ (ys : List ℕ). b ∷ ys) (take-front w rest)

drop-front : (w rest : List ℕ) → drop (length w) (w ++ rest) ≡ rest
drop-front [] rest = refl
drop-front (b ∷ w) rest = drop-front w rest

word-by : (left here w rest : List ℕ) (n : ℕ) → skip_blanks left ≡ here → word_len here ≡ n → (n == 0) ≡ false → take n here ≡ w → drop n here ≡ rest
    → word left ≡ Ok (w, rest)
unfolding word
word-by left here w rest n e f g h i = rw e (rw f (rw g (rw h (rw i refl))))

pub word_first : (w rest : List ℕ) → IsWord w → Ends rest → word (w ++ rest) ≡ Ok (w, rest)
word_first w rest is e =
    word-by (w ++ rest) (w ++ rest) w rest (length w) (skips w rest is) (solid-len w rest is.solid e) is.some (take-front w rest) (drop-front w rest)

pub word_spaced : (w rest : List ℕ) → IsWord w → Ends rest → word (spaced w rest) ≡ Ok (w, rest)
word_spaced w rest is e =
    word-by (spaced w rest) (w ++ rest) w rest (length w) (skips w rest is) (solid-len w rest is.solid e) is.some (take-front w rest) (drop-front w rest)

option-by : (k left here w rest : List ℕ) (n : ℕ) (t : Bool) → skip_blanks left ≡ here → word_len here ≡ n → take n here ≡ w → drop n here ≡ rest → bytes_eq w k ≡ t
    → option k left ≡ (if t then Ok (true, rest) else Ok (false, left))
unfolding option
option-by k left here w rest n t e f g h i = rw e (rw f (rw g (rw h (rw i refl))))

option-word : (k w rest : List ℕ) (t : Bool) → IsWord w → Ends rest → bytes_eq w k ≡ t
    → option k (spaced w rest) ≡ (if t then Ok (true, rest) else Ok (false, spaced w rest))
option-word k w rest t is e i =
    option-by k (spaced w rest) (w ++ rest) w rest (length w) t (skips w rest is) (solid-len w rest is.solid e) (take-front w rest) (drop-front w rest) i

pub option_is : (k rest : List ℕ) → IsWord k → Ends rest → bytes_eq k k ≡ true → option k (spaced k rest) ≡ Ok (true, rest)
option_is k rest is e i = option-word k k rest true is e i

pub option_other : (k w rest : List ℕ) → IsWord w → Ends rest → bytes_eq w k ≡ false → option k (spaced w rest) ≡ Ok (false, spaced w rest)
option_other k w rest is e i = option-word k w rest false is e i

pub option_end : (k : List ℕ) → bytes_eq [] k ≡ false → option k [] ≡ Ok (false, [])
option_end k i = option-by k [] [] [] [] 0 false refl refl refl refl i

pub keyword_is : (k rest : List ℕ) → IsWord k → Ends rest → bytes_eq k k ≡ true → keyword k (spaced k rest) ≡ Ok (k, rest)
unfolding keyword
keyword_is k rest is e i = rw (word_spaced k rest is e) (rw i refl)

-- ---- names are words

name-solid : (b : ℕ) → is_name_byte b ≡ true → is_solid b ≡ true
name-solid b h = grind (arith, nat_tests)

names-solid : (w : List ℕ) → list_all is_name_byte w ≡ true → list_all is_solid w ≡ true
names-solid [] h = refl
names-solid (b ∷ w) h =
    let parts = both (is_name_byte b) (list_all is_name_byte w) h in
    rw (name-solid b parts.0) (names-solid w parts.1)

not-true : (b : Bool) → not b ≡ true → b ≡ false
not-true true h = absurd cc
not-true false h = refl

pub name_bytes : (w : List ℕ) → is_name w ≡ true → list_all is_name_byte w ≡ true
name_bytes w h = (both (not (length w == 0) && nat_le (length w) 64) (list_all is_name_byte w) h).1

pub name_word : (w : List ℕ) → is_name w ≡ true → IsWord w
name_word w h =
    let parts = both (not (length w == 0) && nat_le (length w) 64) (list_all is_name_byte w) h in
    let first = both (not (length w == 0)) (nat_le (length w) 64) parts.0 in
    record { some = not-true (length w == 0) first.0; solid = names-solid w parts.1 }

pub name_spaced : (w rest : List ℕ) → is_name w ≡ true → Ends rest → name (spaced w rest) ≡ Ok (w, rest)
unfolding name
name_spaced w rest h e = rw (word_spaced w rest (name_word w h) e) (rw h refl)

pub name_first : (w rest : List ℕ) → is_name w ≡ true → Ends rest → name (w ++ rest) ≡ Ok (w, rest)
unfolding name
name_first w rest h e = rw (word_first w rest (name_word w h) e) (rw h refl)

pub file_spaced : (w rest : List ℕ) → is_file_name w ≡ true → Ends rest → file_name (spaced w rest) ≡ Ok (w, rest)
unfolding file_name
file_spaced w rest h e =
    rw (word_spaced w rest (name_word w (both (is_name w) (not (is_hidden w)) h).0) e) (rw h refl)

pub end_is : end_of_line [] ≡ Ok (tt, [])
unfolding end_of_line
end_is = refl
