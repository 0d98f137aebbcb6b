-- What ties the reading of a line to its writing.
use Rattle.std.specs.Prelude.{◌≡◌, ℕ, ◌≤◌, List, [], length, Ok, true}
use Rattle.std.specs.List.{list_all}
use Rattle.fragment_plan.specs.declared.fragment.Fragment.{Fragment}
use Rattle.fragment_plan.specs.declared.shape.Shape.{Shape}
use Rattle.fragment_plan.specs.Fragments.{fragment_of}
use Rattle.fragment_plan.specs.Plan.{plan_of}
use Rattle.plan_words.specs.Names.{is_name}
use Rattle.plan_text.specs.Plain.{IsPlain, IsDistinct, ArePlain}
use Rattle.plan_text.specs.Written.{line_text, plan_text}

-- a plain line is read as its fragment, behind lines of fragments of any distinct names
abbrev pub LinesAreRead : Type 0
LinesAreRead = (names : List (List ℕ)) (shapes : List Shape) (fragment : Fragment) → list_all is_name names ≡ true → IsDistinct names
    → IsPlain names shapes fragment → fragment_of names shapes (line_text names fragment) ≡ Ok fragment

-- a plan that is written plainly is read as itself, where it isn't too long
abbrev pub PlansAreRead : Type 0
PlansAreRead = (plan : List Fragment) → ArePlain [] plan → length (plan_text plan) ≤ 1048576 → plan_of (plan_text plan) ≡ Ok plan
