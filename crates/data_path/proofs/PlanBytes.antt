-- Several reads of a source are one.
use Rattle.std.proofs.Common.{◌≡◌, ◌≤◌, ℕ, ◌+◌, List, [], ◌++◌, length, take, drop, Option, Some, sym, ◌∙◌, ap, refl, arith}
use Rattle.std.proofs.Math.Seq.{take-add}
use Rattle.std.proofs.lemmas.List.{drop-drop, take_all, drop_all, length-drop, append-nil}
use Rattle.data_path.specs.PlanBytes.{GaveFront, GaveNext}

-- the first k bytes were read
abbrev pub HasRead : Option (List ℕ) → Option (List ℕ) → ℕ → List ℕ → Type 0
HasRead first last k bytes =
    (told : List ℕ) → first ≡ Some told → (bytes ≡ take k told) × (last ≡ Some (drop k told))

pub read_next : (first between last : Option (List ℕ)) (k n j : ℕ) (old new : List ℕ) → j ≡ k + n
    → HasRead first between k old → GaveNext between last n old new → HasRead first last j new
read_next first between last k n j old new sum front next told e =
    let f = front told e in
    let r = next (drop k told) f.1 in (
      r.1 ∙ ap (λ (xs : List ℕ). xs ++ take n (drop k told)) f.0 ∙ sym (take-add k n told) ∙ ap (λ (i : ℕ). take i told) (sym sum),
      r.2 ∙ ap Some (drop-drop n k told ∙ ap (λ (i : ℕ). drop i told) (sym sum)),
    )

pub read_to_end : (first between last : Option (List ℕ)) (k n most : ℕ) (old new : List ℕ) → n ≡ 0 → k ≤ most
    → HasRead first between k old → GaveNext between last n old new → GaveFront first last most new
read_to_end first between last k n most old new zero few front next told e =
    let f = front told e in
    let r = next (drop k told) f.1 in
    let empty : drop k told ≡ [] = r.3 zero in
    let short : length told ≤ k = omega (arith, length-drop k told, ap length empty) in
    let within : length told ≤ most = omega arith in
    let none : take n (drop k told) ≡ [] = rw zero refl in
    let rest : drop n (drop k told) ≡ [] = ap (λ (i : ℕ). drop i (drop k told)) zero ∙ empty in (
      r.1 ∙ ap (λ (xs : List ℕ). old ++ xs) none ∙ append-nil old ∙ f.0 ∙ take_all k told short ∙ sym (take_all most told within),
      r.2 ∙ ap Some (rest ∙ sym (drop_all most told within)),
    )
