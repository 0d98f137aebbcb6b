-- What holds of the value in an option, if it has one; lists of options by index.
use Rattle.std.proofs.Common.{◌≡◌, ℕ, List, length, get_or, set, refl, arith, subst, sym, inl, inr}
use Rattle.std.specs.Prelude.{Option, None, Some, IsSome, IsSomeAnd, IfSome}
use Rattle.std.proofs.lemmas.Bool.{cases_eq, cases_lt}
use Rattle.std.proofs.lemmas.List.{get_or-set_same, get_or-set_other, get_or_past, length-set}

-- the value of which a fact is said
pub value_of : {A : Type 0} (P : A → Type 0) (o : Option A) → IsSomeAnd o P → (x : A) × (o ≡ Some x) × P x
value_of P None h = absurd h
value_of P (Some x) h = (x, refl, h)

-- what is said of the value, at that value
pub at_value : {A : Type 0} (P : A → Type 0) (o : Option A) (x : A) → o ≡ Some x → IsSomeAnd o P → P x
at_value P o x e h = let Q : Option _ → Type 0 = λ v. IsSomeAnd v P in subst Q e h

pub if_value : {A : Type 0} (P : A → Type 0) (o : Option A) (x : A) → o ≡ Some x → IfSome o P → P x
if_value P o x e h = let Q : Option _ → Type 0 = λ v. IfSome v P in subst Q e h

pub some_and : {A : Type 0} (P : A → Type 0) (o : Option A) (x : A) → o ≡ Some x → P x → IsSomeAnd o P
some_and P o x e h = let Q : Option _ → Type 0 = λ v. IsSomeAnd v P in subst Q (sym e) h

pub is_some_and : {A : Type 0} (P : A → Type 0) (o : Option A) → IsSome o → IfSome o P → IsSomeAnd o P
is_some_and P None s h = cc
is_some_and P (Some x) s h = h

-- of each value another fact follows
pub if_each : {A : Type 0} (P Q : A → Type 0) (o : Option A) → ((x : A) → o ≡ Some x → P x → Q x) → IfSome o P → IfSome o Q
if_each P Q None f h = tt
if_each P Q (Some x) f h = f x refl h

-- one option of a list changes, and the fact, which may speak of the index, holds of the new one
pub if_each-set : {A : Type 0} (P : ℕ → A → Type 0) (xs : List (Option A)) (i : ℕ) (o : Option A) → IfSome o (P i) → ((k : ℕ) → IfSome (get_or xs k None) (P k)) → (k : ℕ) → IfSome (get_or (set xs i o) k None) (P k)
if_each-set P xs i o new old k =
    elim (cases_eq k i) [
      | inl same ↦
          elim (cases_lt i (length xs)) [
            | inl within ↦
                let Q : Option _ → Type 0 = λ v. IfSome v (P k) in
                let here : IfSome o (P k) = rw same new in
                rw same (rw (get_or-set_same xs i o None within) new)
            | inr past ↦
                let none : get_or (set xs i o) k None ≡ None = get_or_past (set xs i o) k None (rw length-set (omega arith)) in
                let Q : Option _ → Type 0 = λ v. IfSome v (P k) in
                subst Q (sym none) tt
          ]
      | inr other ↦
          let e = get_or-set_other xs i k o None other in
          let Q : Option _ → Type 0 = λ v. IfSome v (P k) in
          subst Q (sym e) (old k)
    ]
