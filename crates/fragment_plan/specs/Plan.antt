-- A plan (this project's own): its lines in order, each read behind the fragments of the lines before it.
use Rattle.std.specs.Prelude.{◌≡◌, ℕ, suc, List, [], ◌∷◌, ◌++◌, length, nat_lt, if◌then◌else◌, Result, Ok, Err}
use Rattle.plan_words.specs.declared.fault.PlanKind.{PlanKind}
use Rattle.plan_words.specs.declared.fault.PlanKind.TheVariants as kind
use Rattle.plan_words.specs.Reading.{and_then}
use Rattle.plan_words.specs.Lines.{lines_of, without_return, is_skipped}
use Rattle.fragment_plan.specs.declared.fragment.Fragment.{Fragment}
use Rattle.fragment_plan.specs.declared.error.PlanError.{PlanError}
use Rattle.fragment_plan.specs.declared.error.PlanError.TheVariants.{Fault, NoMemory}
use Rattle.fragment_plan.specs.Fragments.{fragment_of, names_of}
use Rattle.fragment_plan.specs.Shapes.{shapes_of}

-- the fragments, or the first fault: its line and its kind
abbrev pub Read : Type 0
Read = Result (List Fragment) (ℕ × PlanKind)

-- the fragments with that of one line more, or the line's fault
abbrev pub with_line : List Fragment → List ℕ → Result (List Fragment) PlanKind
with_line before text = and_then (fragment_of (names_of before) (shapes_of before) text) (λ fragment. Ok (before ++ fragment ∷ []))

-- what is read behind a line, or the line's fault with its number
abbrev pub on_line : ℕ → Result (List Fragment) PlanKind → (List Fragment → Read) → Read
on_line number (Ok fragments) others = others fragments
on_line number (Err fault) others = Err (number, fault)

-- the lines from line `number` on, behind the fragments `before`
abbrev pub plan_from : ℕ → List Fragment → List (List ℕ) → Read
plan_from number before [] = Ok before
plan_from number before (text ∷ lines) =
    if is_skipped (without_return text) then plan_from (suc number) before lines
    else on_line number (with_line before (without_return text)) (λ fragments. plan_from (suc number) fragments lines)

-- The plan of these bytes, or its first fault. Lines are counted from 1; more than 1,048,576 bytes are too long, before
-- all other faults, in line 0.
unfoldable pub plan_of : List ℕ → Read
plan_of bytes = if nat_lt 1048576 (length bytes) then Err (0, kind.TooLong) else plan_from 1 [] (lines_of bytes)

-- what the program answered is what reading gives; of want of memory nothing is said
abbrev pub Answers : Result (List Fragment) PlanError → Read → Type 0
Answers (Ok fragments) read = read ≡ Ok fragments
Answers (Err (Fault line fault)) read = read ≡ Err (line, fault)
Answers (Err NoMemory) read = Unit {0}
