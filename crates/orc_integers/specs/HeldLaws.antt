-- A part of an array, as what is left of it.
use Rattle.std.proofs.Common.{◌≡◌, ℕ, ◌+◌, ◌-◌, ◌≤◌, List, take, drop, ap, ◌∙◌, arith}
use Rattle.std.proofs.lemmas.List.{drop-take, drop-drop}

pub left_after : {V : Type 0} (values : List V) (from to count : ℕ) → from + count ≤ to
    → drop count (take (to - from) (drop from values)) ≡ take (to - (from + count)) (drop (from + count) values)
left_after {V} values from to count h =
    let k : to - from ≡ count + (to - (from + count)) = omega arith in
    ap (λ (n : ℕ). drop count (take n (drop from values))) k
    ∙ drop-take count (to - (from + count)) (drop from values)
    ∙ ap (λ (l : List V). take (to - (from + count)) l) (drop-drop count from values)
