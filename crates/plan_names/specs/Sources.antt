-- Lists of fragments of earlier lines, by name (this project's own).
use Rattle.std.specs.Prelude.{ℕ, List, [], ◌∷◌, ◌++◌, length, position, nat_lt, if◌then◌else◌, Option, Some, None, Result, Ok, Err, codes}
use Rattle.std.specs.Str.{bytes_eq}
use Rattle.plan_words.specs.declared.fault.PlanKind.{PlanKind}
use Rattle.plan_words.specs.declared.fault.PlanKind.TheVariants as kind
use Rattle.plan_words.specs.Reading.{Reads, and_then, ◌>>=◌, gives, fails, judged, option, name, name_list}

-- the number of the fragment of that name: its place among the names of earlier lines
abbrev pub known : Option ℕ → Result ℕ PlanKind
known (Some number) = Ok number
known None = Err kind.UnknownFragment

-- the numbers of fragments, behind the numbers `done`
abbrev pub all_known : List (List ℕ) → List ℕ → List (List ℕ) → Result (List ℕ) PlanKind
all_known earlier done [] = Ok done
all_known earlier done (found ∷ list) =
    and_then (known (position (bytes_eq found) earlier)) (λ number. all_known earlier (done ++ number ∷ []) list)

-- NAMES: at most 64 names of earlier lines
unfoldable pub sources : List (List ℕ) → Reads (List ℕ)
sources earlier = do
  list ← name_list
  numbers ← judged (all_known earlier [] list)
  if nat_lt 64 (length numbers) then fails kind.TooMany else gives numbers

-- after := nothing | "after" NAMES
unfoldable pub after : List (List ℕ) → Reads (List ℕ)
after earlier = do
  some ← option (codes "after")
  if some then sources earlier else gives []

-- NAME: of no earlier line, of which there are at most 1,000
abbrev pub fresh : Option ℕ → List (List ℕ) → List ℕ → Reads (List ℕ)
fresh (Some number) earlier found = fails kind.BadName
fresh None earlier found = if nat_lt (length earlier) 1000 then gives found else fails kind.TooMany

unfoldable pub new_name : List (List ℕ) → Reads (List ℕ)
new_name earlier = do
  found ← name
  fresh (position (bytes_eq found) earlier) earlier found
