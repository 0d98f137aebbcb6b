-- Texts of lists, one item after the other.
use Rattle.std.proofs.Common.{◌≡◌, ◌<◌, ◌≤◌, ◌+◌, ◌/◌, ◌%◌, ℕ, zero, suc, ℤ, Option, Bool, true, false, ◌==◌, ◌||◌, ◌&&◌, not, nat_lt, nat_le, if◌then◌else◌, List, [], ◌∷◌, ◌++◌, length, take, drop, map, get_or, refl, sym, ◌∙◌, ap, append_assoc, append-nil, arith}
use Rattle.std.specs.List.{flat_map, join_with_byte}
use Rattle.std.proofs.lemmas.List.{take_more, flat_map_more}
use Rattle.std.proofs.lemmas.Bool.Decides.{nat_tests}
use Rattle.orc_values.specs.declared.value.Value.{Value}
use Rattle.fragment_outcome.specs.Text.{hex_digit, stands, escaped_byte, escaped, ended, value_text, tabbed, row_text, groups_text}
use Rattle.std.specs.Fmt.{decimal}
use Rattle.orc_values.specs.declared.value.Value.TheVariants as value
use Rattle.group_counts.specs.Entries.{Entries, one, renamed, entries_of}

module _ {X : Type 0} (f : X → List ℕ) where
  pub flat_map_next : (xs : List X) (i : ℕ) (d : X) → i < length xs → flat_map f (take i xs) ++ f (get_or xs i d) ≡ flat_map f (take (i + 1) xs)
  flat_map_next xs i d lt =
      let none : List ℕ = [] in
      flat_map_more f none (take i xs) (get_or xs i d) ∙ ap (flat_map f) (sym (take_more xs i d lt))

  pub flat_map-append : (xs ys : List X) → flat_map f (xs ++ ys) ≡ flat_map f xs ++ flat_map f ys
  flat_map-append [] ys = refl
  flat_map-append (x ∷ xs) ys = ap (λ (l : List ℕ). f x ++ l) (flat_map-append xs ys) ∙ sym (append_assoc (f x) (flat_map f xs) (flat_map f ys))

-- a byte that stands is its own text
pub escaped_byte-stands : (b : ℕ) → stands b ≡ true → escaped_byte b ≡ b ∷ []
escaped_byte-stands b h = grind (arith, nat_tests)

-- the values of a row
joined : (v : Value) (vs : List Value) → join_with_byte 9 (map value_text (v ∷ vs)) ≡ value_text v ++ tabbed vs
joined v [] = sym (append-nil (value_text v))
joined v (w ∷ vs) = ap (λ (l : List ℕ). value_text v ++ 9 ∷ l) (joined w vs)

pub row_text-cons : (v : Value) (vs : List Value) → row_text (v ∷ vs) ≡ value_text v ++ tabbed vs
row_text-cons v vs = joined v vs

-- the line of a key
pub groups-one : (v : Value) (n : ℕ) → value_text v ++ 9 ∷ (decimal n ++ 10 ∷ []) ≡ groups_text ((v, n) ∷ [])
groups-one v n = sym (append_assoc (value_text v) (9 ∷ decimal n) (10 ∷ [])) ∙ sym (append-nil (ended (value_text v ++ 9 ∷ decimal n)))

-- the line of the next key behind those that are done
pub groups-next : (done : List ℕ) (v : Value) (n : ℕ) (rest all : Entries) → done ++ groups_text ((v, n) ∷ rest) ≡ groups_text all
    → (done ++ (value_text v ++ 9 ∷ (decimal n ++ 10 ∷ []))) ++ groups_text rest ≡ groups_text all
groups-next done v n rest all is =
    let line = value_text v ++ 9 ∷ (decimal n ++ 10 ∷ []) in
    append_assoc done line (groups_text rest)
    ∙ ap (λ (l : List ℕ). done ++ (l ++ groups_text rest)) (sym (append_assoc (value_text v) (9 ∷ decimal n) (10 ∷ [])))
    ∙ is

-- the lines of all kinds, one after the other
pub groups-kinds : (nulls falses trues : Option ℕ) (numbers : List (ℤ × ℕ)) (texts : List (List ℕ × ℕ))
    → groups_text (one value.Null nulls) ++ (groups_text (one (value.Bool false) falses) ++ (groups_text (one (value.Bool true) trues)
    ++ (groups_text (renamed (λ n. value.Int n) numbers) ++ groups_text (renamed (λ t. value.Text t) texts))))
    ≡ groups_text (entries_of nulls falses trues numbers texts)
groups-kinds nulls falses trues numbers texts =
    let line = λ (e : Value × ℕ). ended (value_text e.0 ++ 9 ∷ decimal e.1) in
    let ints = renamed (λ (n : ℤ). value.Int n) numbers in
    let strings = renamed (λ (t : List ℕ). value.Text t) texts in
    sym (flat_map-append line (one value.Null nulls) (one (value.Bool false) falses ++ (one (value.Bool true) trues ++ (ints ++ strings)))
    ∙ ap (λ (l : List ℕ). groups_text (one value.Null nulls) ++ l) (flat_map-append line (one (value.Bool false) falses) (one (value.Bool true) trues ++ (ints ++ strings))
    ∙ ap (λ (l : List ℕ). groups_text (one (value.Bool false) falses) ++ l) (flat_map-append line (one (value.Bool true) trues) (ints ++ strings)
    ∙ ap (λ (l : List ℕ). groups_text (one (value.Bool true) trues) ++ l) (flat_map-append line ints strings))))

take-nothing : (k : ℕ) → take {A = ℕ} k [] ≡ []
take-nothing zero = refl
take-nothing (suc k) = refl

take-more : (xs : List ℕ) (m k : ℕ) → take m xs ++ take k (drop m xs) ≡ take (m + k) xs
take-more xs zero k = let e : k ≡ 0 + k = omega arith in ap (λ (j : ℕ). take j xs) e
take-more [] (suc m) k = take-nothing k ∙ sym (take-nothing (suc m + k))
take-more (x ∷ xs) (suc m) k =
    let e : suc m + k ≡ suc (m + k) = omega arith in
    ap (λ (l : List ℕ). x ∷ l) (take-more xs m k) ∙ ap (λ (j : ℕ). take j (x ∷ xs)) (sym e)

-- bytes of a text behind those that are done
pub escaped-next : (text : List ℕ) (done n : ℕ) → escaped (take done text) ++ escaped (take n (drop done text)) ≡ escaped (take (done + n) text)
escaped-next text done n = sym (flat_map-append escaped_byte (take done text) (take n (drop done text))) ∙ ap (flat_map escaped_byte) (take-more text done n)
