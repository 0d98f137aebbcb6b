-- Lists of names are read as they are written.
use Rattle.std.proofs.Common.{◌≡◌, ℕ, ◌≤◌, List, [], ◌∷◌, ◌++◌, length, true, false, ◌==◌, Ok, refl, ap, ◌∙◌, arith, ne_eqb}
use Rattle.std.specs.List.{list_all}
use Rattle.std.proofs.lemmas.Bool.Decides.{nat_tests}
use Rattle.std.proofs.lemmas.List.Folds.{list_all-append}
use Rattle.plan_words.specs.Pieces.{pieces_of, into_first}
use Rattle.plan_words.specs.Names.{is_name_byte, is_name}
use Rattle.plan_words.specs.Reading.{name_list}
use Rattle.plan_text.specs.Written.{spaced, joined}
use Rattle.plan_text.proofs.WordsRead.{both, is_solid, Ends, word_spaced, name_bytes, name_word}

no-comma : (b : ℕ) → is_name_byte b ≡ true → (b == 44) ≡ false
no-comma b h = grind (arith, nat_tests)

one-piece : (w : List ℕ) → list_all is_name_byte w ≡ true → pieces_of 44 w ≡ w ∷ []
one-piece [] h = refl
one-piece (b ∷ w) h =
    let parts = both (is_name_byte b) (list_all is_name_byte w) h in
    rw (no-comma b parts.0) (ap (into_first b) (one-piece w parts.1))

first-piece : (w rest : List ℕ) → list_all is_name_byte w ≡ true → pieces_of 44 (w ++ 44 ∷ rest) ≡ w ∷ pieces_of 44 rest
first-piece [] rest h = refl
first-piece (b ∷ w) rest h =
    let parts = both (is_name_byte b) (list_all is_name_byte w) h in
    rw (no-comma b parts.0) (ap (into_first b) (first-piece w rest parts.1))

pieces-joined : (names : List (List ℕ)) → 1 ≤ length names → list_all is_name names ≡ true → pieces_of 44 (joined names) ≡ names
pieces-joined [] some h = absurd (omega (arith, some))
pieces-joined (name ∷ []) some h = one-piece name (name_bytes name (both (is_name name) (list_all is_name []) h).0)
pieces-joined (name ∷ other ∷ names) some h =
    let parts = both (is_name name) (list_all is_name (other ∷ names)) h in
    first-piece name (joined (other ∷ names)) (name_bytes name parts.0)
    ∙ ap (λ (ps : List (List ℕ)). name ∷ ps) (pieces-joined (other ∷ names) (omega arith) parts.1)

joined-solid : (names : List (List ℕ)) → list_all is_name names ≡ true → list_all is_solid (joined names) ≡ true
joined-solid [] h = refl
joined-solid (name ∷ []) h = (name_word name (both (is_name name) (list_all is_name []) h).0).solid
joined-solid (name ∷ other ∷ names) h =
    let parts = both (is_name name) (list_all is_name (other ∷ names)) h in
    list_all-append is_solid name (44 ∷ joined (other ∷ names)) ∙ rw ((name_word name parts.0).solid) (joined-solid (other ∷ names) parts.1)

more-bytes : (w rest : List ℕ) → (length w == 0) ≡ false → (length (w ++ rest) == 0) ≡ false
more-bytes [] rest h = absurd (let e : true ≡ false = h in cc)
more-bytes (b ∷ w) rest h = ne_eqb _ 0 (λ z. omega (arith, z))

joined-some : (names : List (List ℕ)) → 1 ≤ length names → list_all is_name names ≡ true → (length (joined names) == 0) ≡ false
joined-some [] some h = absurd (omega (arith, some))
joined-some (name ∷ []) some h = (name_word name (both (is_name name) (list_all is_name []) h).0).some
joined-some (name ∷ other ∷ names) some h =
    more-bytes name (44 ∷ joined (other ∷ names)) (name_word name (both (is_name name) (list_all is_name (other ∷ names)) h).0).some

pub list_spaced : (names : List (List ℕ)) (rest : List ℕ) → 1 ≤ length names → list_all is_name names ≡ true → Ends rest
    → name_list (spaced (joined names) rest) ≡ Ok (names, rest)
unfolding name_list
list_spaced names rest some h e =
    rw (word_spaced (joined names) rest (record { some = joined-some names some h; solid = joined-solid names h }) e)
    (rw (pieces-joined names some h) (rw h refl))
