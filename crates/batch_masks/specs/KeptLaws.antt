-- What follows of the entries of the rows that pass.
use Rattle.std.proofs.Common.{◌≡◌, ℕ, ◌+◌, ◌<◌, Bool, true, false, List, [], ◌∷◌, ◌++◌, length, take}
use Rattle.std.proofs.Common.{map, get_or, if◌then◌else◌, filter, cond, refl, sym, ◌∙◌, ap, arith}
use Rattle.std.proofs.lemmas.List.{take_more, length-take-le}
use Rattle.batch_masks.specs.Kept.{kept}

pub kept-append : {A : Type 0} (flags more : List Bool) (entries others : List A) → length flags ≡ length entries
    → kept (flags ++ more) (entries ++ others) ≡ kept flags entries ++ kept more others
kept-append [] more [] others len = refl
kept-append [] more (entry ∷ entries) others len = absurd (omega arith)
kept-append (p ∷ flags) more [] others len = absurd (omega arith)
kept-append {A} (true ∷ flags) more (entry ∷ entries) others len =
    ap (λ (xs : List A). entry ∷ xs) (kept-append flags more entries others (omega arith))
kept-append (false ∷ flags) more (entry ∷ entries) others len = kept-append flags more entries others (omega arith)

-- one row more
pub kept_more : {A : Type 0} (flags : List Bool) (entries : List A) (i : ℕ) (p : Bool) (entry : A) → length flags ≡ length entries
    → i < length entries
    → kept (take (i + 1) flags) (take (i + 1) entries) ≡ kept (take i flags) (take i entries)
    ++ (if get_or flags i p then get_or entries i entry ∷ [] else [])
kept_more {A} flags entries i p entry len lt =
    let front : length (take i flags) ≡ length (take i entries) =
    length-take-le i flags (omega arith) ∙ sym (length-take-le i entries (omega arith)) in
    ap (λ (xs : List A). kept (take (i + 1) flags) xs) (take_more entries i entry lt)
    ∙ ap (λ (xs : List Bool). kept xs (take i entries ++ get_or entries i entry ∷ [])) (take_more flags i p (omega arith))
    ∙ kept-append (take i flags) (get_or flags i p ∷ []) (take i entries) (get_or entries i entry ∷ []) front

-- what stands in the rows that pass
pub kept-filter : {A B : Type 0} (pass : A → Bool) (of : A → B) (rows : List A)
    → kept (map pass rows) (map of rows) ≡ map of (filter pass rows)
kept-filter pass of [] = refl
kept-filter {A} {B} pass of (row ∷ rows) = by (pass row) (kept-filter pass of rows)
  where
    by : (p : Bool) → kept (map pass rows) (map of rows) ≡ map of (filter pass rows)
        → (if p then of row ∷ kept (map pass rows) (map of rows) else kept (map pass rows) (map of rows))
        ≡ map of (cond p (row ∷ filter pass rows) (filter pass rows))
    by true h = ap (λ (xs : List B). of row ∷ xs) h
    by false h = h
