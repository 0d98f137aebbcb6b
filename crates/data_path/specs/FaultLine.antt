-- The line on the first fault of a plan. Source: this project's own.
use Rattle.std.specs.Prelude.{ℕ, List, [], ◌∷◌, ◌++◌, codes}
use Rattle.std.specs.Fmt.{decimal}
use Rattle.plan_words.specs.declared.fault.PlanKind.{PlanKind}
use Rattle.plan_words.specs.declared.fault.PlanKind.TheVariants as kind
use Rattle.plan_words.specs.Faults.{words_of}

-- with the byte that ends a line
abbrev pub in_line : ℕ → List ℕ → List ℕ
in_line line words = codes "plan line " ++ (decimal line ++ (codes ": " ++ (words ++ 10 ∷ [])))

-- A plan that is too long has no line to name; every other fault has one, counted from 1.
abbrev pub fault_text : ℕ → PlanKind → List ℕ
fault_text line kind.BadWord = in_line line (words_of kind.BadWord)
fault_text line kind.BadName = in_line line (words_of kind.BadName)
fault_text line kind.UnknownFragment = in_line line (words_of kind.UnknownFragment)
fault_text line kind.ShapeDiffers = in_line line (words_of kind.ShapeDiffers)
fault_text line kind.TooMany = in_line line (words_of kind.TooMany)
fault_text line kind.BadLiteral = in_line line (words_of kind.BadLiteral)
fault_text line kind.TooLong = codes "plan too long" ++ 10 ∷ []
