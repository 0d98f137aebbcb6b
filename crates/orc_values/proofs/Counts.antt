-- How many flags are set, part by part.
use Rattle.std.proofs.Common.{◌≡◌, ◌∙◌, ◌+◌, ℕ, Bool, true, false, List, ◌∷◌, length, take, drop, count_by, cond, refl, sym, ap, arith, length-append}
use Rattle.std.proofs.lemmas.List.{take-append-drop}
use Rattle.std.proofs.lemmas.List.Recursion.{is_count_by}
use Rattle.orc_values.specs.Woven.{present_count}
use Rattle.orc_values.specs.WovenLaws.{present_count-append}

step : (p : Bool) (present : List Bool) → present_count (p ∷ present) ≡ cond p (1 + present_count present) (present_count present)
step true present = refl
step false present = omega arith

pub count_by-present : (present : List Bool) → present_count present ≡ count_by (λ p. p) present
count_by-present present = is_count_by present_count (λ p. p) refl step present

-- a front of the flags and those behind it
pub in_two : (n : ℕ) (present front behind : List Bool) → front ≡ take n present → behind ≡ drop n present
    → present_count present ≡ present_count front + present_count behind
in_two n present front behind is rest =
    ap present_count (sym (take-append-drop n present)) ∙ present_count-append (take n present) (drop n present)
    ∙ sym (ap (λ (l : List Bool). present_count l + present_count behind) is
    ∙ ap (λ (l : List Bool). present_count (take n present) + present_count l) rest)

pub lengths_in_two : (n : ℕ) (present front behind : List Bool) → front ≡ take n present → behind ≡ drop n present
    → length present ≡ length front + length behind
lengths_in_two n present front behind is rest =
    ap (λ (l : List Bool). length l) (sym (take-append-drop n present)) ∙ length-append (take n present) (drop n present)
    ∙ sym (ap (λ (l : List Bool). length l + length behind) is
    ∙ ap (λ (l : List Bool). length (take n present) + length l) rest)
