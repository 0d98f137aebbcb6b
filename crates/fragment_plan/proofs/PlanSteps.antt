-- The end of a plan.
use Rattle.std.proofs.Common.{◌≡◌, ◌≤◌, ℕ, List, [], length, Ok, sym, ap, ◌∙◌, le-ltb}
use Rattle.plan_words.specs.Lines.{lines_of}
use Rattle.fragment_plan.specs.declared.fragment.Fragment.{Fragment}
use Rattle.fragment_plan.specs.Plan.{plan_from, plan_of}

-- no line is left
pub ended : (bytes : List ℕ) (lines : List (List ℕ)) (number : ℕ) (fragments items : List Fragment) → length bytes ≤ 1048576 → lines ≡ []
    → plan_from number fragments lines ≡ plan_from 1 [] (lines_of bytes) → items ≡ fragments → plan_of bytes ≡ Ok items
unfolding plan_of
ended bytes lines number fragments items short none goes same =
    rw (le-ltb 1048576 (length bytes) short)
    (sym goes ∙ ap (λ (ls : List (List ℕ)). plan_from number fragments ls) none ∙ ap (λ (fs : List Fragment). plan_from number fs []) (sym same))
