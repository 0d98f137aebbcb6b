-- Slots that hold nothing.
use Rattle.std.proofs.Common.{◌≡◌, ℕ, zero, suc, List, [], ◌∷◌, length, refl, ap, ◌∙◌, arith}
use Rattle.std.specs.Prelude.{Option, None, replicate}
use Rattle.held_ranges.specs.declared.held.Held.{Held}
use Rattle.held_ranges.specs.Moments.{AreEmpty, Slots}

pub all_none : (n : ℕ) (slots : Slots) → length slots ≡ n → AreEmpty slots → slots ≡ replicate n None
all_none zero [] e empty = refl
all_none (suc n) [] e empty = absurd (omega (arith, e))
all_none zero (x ∷ xs) e empty = absurd (omega (arith, e))
all_none (suc n) (x ∷ xs) e empty =
    let rest : xs ≡ replicate n None = all_none n xs (omega (arith, e)) (λ slot. empty (suc slot)) in
    ap (λ (y : Option Held). y ∷ xs) (empty zero) ∙ ap (λ (ys : Slots). None ∷ ys) rest
