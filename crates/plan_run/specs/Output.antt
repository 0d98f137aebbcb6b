-- What is printed of a plan: the texts of its fragments' outcomes, in plan order. Source: this project's own.
use Rattle.std.specs.Prelude.{ℕ, ◌+◌, List, [], ◌∷◌, ◌++◌}
use Rattle.fragment_plan.specs.declared.fragment.Fragment.{Fragment}
use Rattle.fragment_outcome.specs.declared.outcome.Outcome.{Outcome}
use Rattle.fragment_outcome.specs.Text.{result_text}

-- the texts of the outcomes of the fragments from number `number` on
abbrev pub results_from : List Fragment → ℕ → List Outcome → List ℕ
results_from plan number [] = []
results_from plan number (o ∷ outcomes) = result_text plan number o ++ results_from plan (number + 1) outcomes

-- the text of all of them
abbrev pub results_text : List Fragment → List Outcome → List ℕ
results_text plan outcomes = results_from plan 0 outcomes
