-- What is told, and how it changes. Source: this project's own.
use Rattle.std.specs.Prelude.{◌≡◌, ℕ, ◌≤◌, List, [], ◌++◌, length, take, drop, Option, Some}
use Rattle.std.proofs.Common.{sym, ◌∙◌, ap, append_assoc, append-nil}

-- Where the list is told afterwards, it was told before, and has these items more at its end.
abbrev pub Extended : {A : Type 0} → Option (List A) → Option (List A) → List A → Type 0
Extended {A} before after items =
    (new : List A) → after ≡ Some new → (old : List A) × (before ≡ Some old) × (new ≡ old ++ items)

-- What is left was told, and so many of its items were taken from its front: they are these, and what is
-- left now is told and is the rest.
pub record TakenFrom {A : Type 0} (bytes : List A) (n : ℕ) (taken : List A) (left : Option (List A)) : Type 0 where
  pub enough : n ≤ length bytes
  pub front : take n taken ≡ take n bytes
  pub rest : left ≡ Some (drop n bytes)

-- nothing was added
pub Extended-none : {A : Type 0} (list : Option (List A)) → Extended list list []
Extended-none list new told = (new, told, sym (append-nil new))

-- some items were added, and then others
pub Extended-then : {A : Type 0} (first between last : Option (List A)) (front back : List A)
    → Extended first between front → Extended between last back → Extended first last (front ++ back)
Extended-then first between last front back p q new told =
    let later = q new told in
    let earlier = p later.0 later.1 in
    (earlier.0, earlier.1, later.2 ∙ ap (λ xs. xs ++ back) earlier.2 ∙ append_assoc earlier.0 front back)
