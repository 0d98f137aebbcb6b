-- Columns, and fragments of earlier lines, are found where they stand.
use Rattle.std.proofs.Common.{◌≡◌, ℕ, zero, suc, ◌+◌, ◌<◌, ◌≤◌, List, [], ◌∷◌, ◌++◌, length, take, map, position, Bool, true, false, cond, ◌==◌, nat_lt, Option, Some, None, Ok, refl, sym, ap, ◌∙◌, arith, ltb-true, ltb-false, lt-ltb, le-ltb, eqb-true, if◌then◌else◌, ◌⊎◌, inl, inr, append_assoc, append-nil, add-one}
use Rattle.std.specs.Prelude.{All}
use Rattle.std.specs.List.{position_or_len, list_all}
use Rattle.std.specs.Str.{bytes_eq}
use Rattle.std.proofs.lemmas.List.{take_more, length-take-le}
use Rattle.std.proofs.lemmas.List.Elements.{All-head, All-tail}
use Rattle.plan_words.specs.Names.{is_name}
use Rattle.plan_names.specs.Columns.{placed, column, all_placed}
use Rattle.plan_names.specs.Sources.{all_known}
use Rattle.plan_text.specs.Written.{spaced, name_at}
use Rattle.plan_text.specs.Plain.{IsDistinct, named}
use Rattle.plan_text.proofs.WordsRead.{both, Ends, name_spaced}

abbrev pub next_place : Option ℕ → Option ℕ
next_place None = None
next_place (Some n) = Some (1 + n)

pub position_first : {X : Type 0} (p : X → Bool) (x : X) (xs : List X) → p x ≡ true → position p (x ∷ xs) ≡ Some 0
position_first p x xs t = rw t (rw (lt-ltb 0 (length (x ∷ xs)) (omega arith)) refl)

later-by : (a b : ℕ) (t : Bool) → nat_lt a b ≡ t → cond (nat_lt (1 + a) (suc b)) (Some (1 + a)) None ≡ next_place (cond (nat_lt a b) (Some a) None)
later-by a b true t = rw t (rw (lt-ltb (1 + a) (suc b) (omega (arith, ltb-true a b t))) refl)
later-by a b false t = rw t (rw (le-ltb (1 + a) (suc b) (omega (arith, ltb-false a b t))) refl)

pub position_later : {X : Type 0} (p : X → Bool) (x : X) (xs : List X) → p x ≡ false → position p (x ∷ xs) ≡ next_place (position p xs)
position_later p x xs t = rw t (later-by (position_or_len p xs) (length xs) (nat_lt (position_or_len p xs) (length xs)) refl)

pub from_next : (o : Option ℕ) (k : ℕ) → next_place o ≡ Some k → (j : ℕ) × (o ≡ Some j) × (k ≡ 1 + j)
from_next None k e = absurd cc
from_next (Some j) k e = (j, refl, cc)

found-by : {X : Type 0} (p : X → Bool) (x : X) (xs : List X) (k n : ℕ) (t : Bool) → p x ≡ t
    → ((j : ℕ) → position p xs ≡ Some j → j < n → position p (take n xs) ≡ Some j)
    → position p (x ∷ xs) ≡ Some k → k < suc n → position p (x ∷ take n xs) ≡ Some k
found-by p x xs k n true t later e h = position_first p x (take n xs) t ∙ sym (position_first p x xs t) ∙ e
found-by p x xs k n false t later e h =
    let j = from_next (position p xs) k (sym (position_later p x xs t) ∙ e) in
    position_later p x (take n xs) t ∙ ap next_place (later j.0 j.1 (omega (arith, h, j.2))) ∙ ap (λ (m : ℕ). Some m) (sym j.2)

-- what is found below n is found among the first n
take-found : {X : Type 0} (p : X → Bool) (xs : List X) (k n : ℕ) → position p xs ≡ Some k → k < n → position p (take n xs) ≡ Some k
take-found p [] k n e h = absurd cc
take-found p (x ∷ xs) k zero e h = absurd (omega (arith, h))
take-found p (x ∷ xs) k (suc n) e h = found-by p x xs k n (p x) refl (λ j f g. take-found p xs j n f g) e h

none-by : {X : Type 0} (p : X → Bool) (x : X) (xs : List X) (k n : ℕ) (t : Bool) → p x ≡ t
    → ((j : ℕ) → position p xs ≡ Some j → n ≤ j → position p (take n xs) ≡ None)
    → position p (x ∷ xs) ≡ Some k → suc n ≤ k → position p (x ∷ take n xs) ≡ None
none-by p x xs k n true t later e h =
    let zero-is : Some 0 ≡ Some k = sym (position_first p x xs t) ∙ e in
    let k-is : 0 ≡ k = cc in absurd (omega (arith, h, k-is))
none-by p x xs k n false t later e h =
    let j = from_next (position p xs) k (sym (position_later p x xs t) ∙ e) in
    position_later p x (take n xs) t ∙ ap next_place (later j.0 j.1 (omega (arith, h, j.2)))

-- what is first found at n or later isn't among the first n
take-none : {X : Type 0} (p : X → Bool) (xs : List X) (k n : ℕ) → position p xs ≡ Some k → n ≤ k → position p (take n xs) ≡ None
take-none p xs k zero e h = refl
take-none p [] k (suc n) e h = absurd cc
take-none p (x ∷ xs) k (suc n) e h = none-by p x xs k n (p x) refl (λ j f g. take-none p xs j n f g) e h

-- ---- columns

-- distinct names, at most 16
pub record Cols (columns : List (List ℕ)) : Type 0 where
  pub are : list_all is_name columns ≡ true
  pub distinct : IsDistinct columns
  pub few : length columns ≤ 16

pub name_in : (names : List (List ℕ)) (k : ℕ) → list_all is_name names ≡ true → k < length names → is_name (name_at names k) ≡ true
name_in [] k h lt = absurd (omega (arith, lt))
name_in (x ∷ names) zero h lt = (both (is_name x) (list_all is_name names) h).0
name_in (x ∷ names) (suc k) h lt = name_in names k (both (is_name x) (list_all is_name names) h).1 (omega (arith, lt))

placed-old : (columns : List (List ℕ)) (n p : ℕ) → Cols columns → p < n → n ≤ length columns → placed (take n columns) (name_at columns p) ≡ Ok (p, take n columns)
placed-old columns n p cols lt le =
    rw (take-found (bytes_eq (name_at columns p)) columns p n (cols.distinct p (omega (arith, lt, le))) lt) refl

placed-new : (columns : List (List ℕ)) (n : ℕ) → Cols columns → n < length columns → placed (take n columns) (name_at columns n) ≡ Ok (n, take (suc n) columns)
placed-new columns n cols lt =
    let long : length (take n columns) ≡ n = length-take-le n columns (omega (arith, lt)) in
    let room : nat_lt (length (take n columns)) 16 ≡ true = lt-ltb (length (take n columns)) 16 (omega (arith, long, lt, cols.few)) in
    let more : take (suc n) columns ≡ take n columns ++ name_at columns n ∷ [] = rw (sym (add-one n)) (take_more columns n [] lt) in
    rw (take-none (bytes_eq (name_at columns n)) columns n n (cols.distinct n lt) (omega arith))
    (rw room (ap (λ (x : ℕ × List (List ℕ)). Ok x) (ap (λ (m : ℕ). (m, take n columns ++ name_at columns n ∷ [])) long ∙ ap (λ (cs : List (List ℕ)). (n, cs)) (sym more))))

-- how many columns are named behind a place
abbrev pub grown : ℕ → ℕ → ℕ
grown n place = if nat_lt place n then n else suc n

-- a place that is named next, and how the others go on
pub record Named (n place : ℕ) (places : List ℕ) (m : ℕ) : Type 0 where
  pub next : ℕ
  pub later : named next places ≡ Some m
  pub is : ((place < n) × (next ≡ n)) ⊎ ((place ≡ n) × (next ≡ suc n))

named-last : (n place : ℕ) (places : List ℕ) (m : ℕ) (t : Bool) → (place == n) ≡ t → (if place == n then named (suc n) places else None) ≡ Some m → Named n place places m
named-last n place places m true t e = record { next = suc n; later = sym (rw t refl) ∙ e; is = inr (eqb-true place n t, refl) }
named-last n place places m false t e = let none : None ≡ Some m = sym (rw t refl) ∙ e in absurd cc

named-by : (n place : ℕ) (places : List ℕ) (m : ℕ) (t : Bool) → nat_lt place n ≡ t → named n (place ∷ places) ≡ Some m → Named n place places m
named-by n place places m true t e = record { next = n; later = sym (rw t refl) ∙ e; is = inl (ltb-true place n t, refl) }
named-by n place places m false t e = named-last n place places m (place == n) refl (sym (rw t refl) ∙ e)

pub named_step : (n place : ℕ) (places : List ℕ) (m : ℕ) → named n (place ∷ places) ≡ Some m → Named n place places m
named_step n place places m e = named-by n place places m (nat_lt place n) refl e

grows-by : (n place : ℕ) (places : List ℕ) (m next : ℕ) → ((place < n) × (next ≡ n)) ⊎ ((place ≡ n) × (next ≡ suc n)) → next ≤ m → n ≤ m
grows-by n place places m next (inl x) h = omega (arith, h, x.1)
grows-by n place places m next (inr x) h = omega (arith, h, x.1)

pub named_grows : (n : ℕ) (places : List ℕ) (m : ℕ) → named n places ≡ Some m → n ≤ m
named_grows n [] m e = let same : n ≡ m = cc in omega (arith, same)
named_grows n (place ∷ places) m e =
    let s = named_step n place places m e in
    grows-by n place places m s.next s.is (named_grows s.next places m s.later)

placed-either : (columns : List (List ℕ)) (n place next : ℕ) → Cols columns → next ≤ length columns
    → ((place < n) × (next ≡ n)) ⊎ ((place ≡ n) × (next ≡ suc n)) → (place < length columns) × (placed (take n columns) (name_at columns place) ≡ Ok (place, take next columns))
placed-either columns n place next cols le (inl x) =
    (omega (arith, x.0, x.1, le), rw x.1 (placed-old columns n place cols x.0 (omega (arith, x.1, le))))
placed-either columns n place next cols le (inr x) =
    (omega (arith, x.0, x.1, le), rw x.1 (rw x.0 (placed-new columns n cols (omega (arith, x.1, le)))))

pub placed_is : (columns : List (List ℕ)) (n place : ℕ) (places : List ℕ) (m : ℕ) → Cols columns → m ≤ length columns → (s : Named n place places m)
    → (place < length columns) × (placed (take n columns) (name_at columns place) ≡ Ok (place, take s.next columns))
placed_is columns n place places m cols le s =
    placed-either columns n place s.next cols (omega (arith, named_grows s.next places m s.later, le)) s.is

pub column_is : (columns : List (List ℕ)) (n place : ℕ) (places : List ℕ) (m : ℕ) (rest : List ℕ) → Cols columns → m ≤ length columns → (s : Named n place places m) → Ends rest
    → column (take n columns) (spaced (name_at columns place) rest) ≡ Ok ((place, take s.next columns), rest)
unfolding column
column_is columns n place places m rest cols le s e =
    let p = placed_is columns n place places m cols le s in
    rw (name_spaced (name_at columns place) rest (name_in columns place cols.are p.0) e) (rw p.1 refl)

pub all_placed_is : (columns : List (List ℕ)) (n : ℕ) (done places : List ℕ) (m : ℕ) → Cols columns → m ≤ length columns → named n places ≡ Some m
    → all_placed (take n columns) done (map (name_at columns) places) ≡ Ok (done ++ places, take m columns)
all_placed_is columns n done [] m cols le e =
    let same : n ≡ m = cc in
    ap (λ (k : ℕ). Ok (done, take k columns)) same ∙ ap (λ (ps : List ℕ). Ok (ps, take m columns)) (sym (append-nil done))
all_placed_is columns n done (place ∷ places) m cols le e =
    let s = named_step n place places m e in
    let p = placed_is columns n place places m cols le s in
    rw p.1 (all_placed_is columns s.next (done ++ place ∷ []) places m cols le s.later ∙ ap (λ (ps : List ℕ). Ok (ps, take m columns)) (append_assoc done (place ∷ []) places))

pub places_names : (columns : List (List ℕ)) (n : ℕ) (places : List ℕ) (m : ℕ) → Cols columns → m ≤ length columns → named n places ≡ Some m
    → list_all is_name (map (name_at columns) places) ≡ true
places_names columns n [] m cols le e = refl
places_names columns n (place ∷ places) m cols le e =
    let s = named_step n place places m e in
    let p = placed_is columns n place places m cols le s in
    rw (name_in columns place cols.are p.0) (places_names columns s.next places m cols le s.later)

-- ---- fragments of earlier lines

pub all_known_is : (names : List (List ℕ)) (done numbers : List ℕ) → IsDistinct names → All (λ number. number < length names) numbers
    → all_known names done (map (name_at names) numbers) ≡ Ok (done ++ numbers)
all_known_is names done [] distinct all = ap (λ (ps : List ℕ). Ok ps) (sym (append-nil done))
all_known_is names done (number ∷ numbers) distinct all =
    rw (distinct number (All-head (λ number. number < length names) number numbers all))
    (all_known_is names (done ++ number ∷ []) numbers distinct (All-tail (λ number. number < length names) number numbers all)
    ∙ ap (λ (ps : List ℕ). Ok ps) (append_assoc done (number ∷ []) numbers))

pub numbers_names : (names : List (List ℕ)) (numbers : List ℕ) → list_all is_name names ≡ true → All (λ number. number < length names) numbers
    → list_all is_name (map (name_at names) numbers) ≡ true
numbers_names names [] h all = refl
numbers_names names (number ∷ numbers) h all =
    rw (name_in names number h (All-head (λ number. number < length names) number numbers all))
    (numbers_names names numbers h (All-tail (λ number. number < length names) number numbers all))
