-- What ties the text of the plan over a generated file to its fragments.
use Rattle.std.specs.Prelude.{◌≡◌, ℕ, ◌<◌, ◌^◌, Ok}
use Rattle.fragment_plan.specs.Plan.{plan_of}
use Rattle.generated_plan.specs.Text.{file_name, generated_plan}
use Rattle.generated_plan.specs.Fragments.{plan_over}

-- the plan is in the grammar, and these are its fragments
abbrev pub GeneratedPlansAreRead : Type 0
GeneratedPlansAreRead = (number rows : ℕ) → number < 2 ^ 32 → rows < 2 ^ 32
    → plan_of (generated_plan number rows) ≡ Ok (plan_over (file_name number rows) number)
