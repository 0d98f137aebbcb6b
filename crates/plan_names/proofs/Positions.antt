-- Places in lists.
use Rattle.std.proofs.Common.{◌≡◌, ℕ, suc, ◌+◌, List, [], ◌∷◌, length, map, position, Bool, true, false, not, cond, nat_lt, Option, Some, None, refl, sym, ap, ◌∙◌, arith, ltb-true, ltb-false, lt-ltb, le-ltb}
use Rattle.std.specs.List.{position_or_len, list_any}

abbrev pub next_place : Option ℕ → Option ℕ
next_place None = None
next_place (Some n) = Some (1 + n)

pub position_first : {X : Type 0} (p : X → Bool) (x : X) (xs : List X) → p x ≡ true → position p (x ∷ xs) ≡ Some 0
position_first p x xs t = rw t (rw (lt-ltb 0 (length (x ∷ xs)) (omega arith)) refl)

later-by : (a b : ℕ) (t : Bool) → nat_lt a b ≡ t → cond (nat_lt (1 + a) (suc b)) (Some (1 + a)) None ≡ next_place (cond (nat_lt a b) (Some a) None)
later-by a b true t = rw t (rw (lt-ltb (1 + a) (suc b) (omega (arith, ltb-true a b t))) refl)
later-by a b false t = rw t (rw (le-ltb (1 + a) (suc b) (omega (arith, ltb-false a b t))) refl)

pub position_later : {X : Type 0} (p : X → Bool) (x : X) (xs : List X) → p x ≡ false → position p (x ∷ xs) ≡ next_place (position p xs)
position_later p x xs t = rw t (later-by (position_or_len p xs) (length xs) (nat_lt (position_or_len p xs) (length xs)) refl)

pub length_map : {X Y : Type 0} (f : X → Y) (xs : List X) → length (map f xs) ≡ length xs
length_map f [] = refl
length_map f (x ∷ xs) = ap suc (length_map f xs)

or-len-map : {X Y : Type 0} (p : Y → Bool) (f : X → Y) (xs : List X) → position_or_len p (map f xs) ≡ position_or_len (λ x. p (f x)) xs
or-len-map p f [] = refl
or-len-map p f (x ∷ xs) = ap (λ (n : ℕ). cond (not (p (f x))) (1 + n) 0) (or-len-map p f xs)

pub position_map : {X Y : Type 0} (p : Y → Bool) (f : X → Y) (xs : List X) → position p (map f xs) ≡ position (λ x. p (f x)) xs
position_map p f xs = rw (or-len-map p f xs) (rw (length_map f xs) refl)

no-next : (o : Option ℕ) → next_place o ≡ None → o ≡ None
no-next None e = refl
no-next (Some n) e = absurd cc

none-by : {X : Type 0} (p : X → Bool) (x : X) (xs : List X) (t : Bool) → p x ≡ t → (position p xs ≡ None → list_any p xs ≡ false) → position p (x ∷ xs) ≡ None → list_any p (x ∷ xs) ≡ false
none-by p x xs true t later e = let first = position_first p x xs t in absurd cc
none-by p x xs false t later e = rw t (later (no-next (position p xs) (sym (position_later p x xs t) ∙ e)))

pub none_is_among : {X : Type 0} (p : X → Bool) (xs : List X) → position p xs ≡ None → list_any p xs ≡ false
none_is_among p [] e = refl
none_is_among p (x ∷ xs) e = none-by p x xs (p x) refl (none_is_among p xs) e
