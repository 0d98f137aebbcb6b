-- The columns of a line (this project's own): the distinct names, in the order in which the line first names them.
use Rattle.std.specs.Prelude.{ℕ, List, [], ◌∷◌, ◌++◌, length, position, nat_lt, if◌then◌else◌, Option, Some, None, Result, Ok, Err}
use Rattle.std.specs.Str.{bytes_eq}
use Rattle.plan_words.specs.declared.fault.PlanKind.{PlanKind}
use Rattle.plan_words.specs.declared.fault.PlanKind.TheVariants as kind
use Rattle.plan_words.specs.Reading.{Reads, and_then, ◌>>=◌, ◌>>◌, gives, fails, judged, name, name_list}

-- a column's place among those that were named before, and the columns that are named then: at most 16
abbrev pub placed_at : Option ℕ → List (List ℕ) → List ℕ → Result (ℕ × List (List ℕ)) PlanKind
placed_at (Some place) columns found = Ok (place, columns)
placed_at None columns found =
    if nat_lt (length columns) 16 then Ok (length columns, columns ++ found ∷ []) else Err kind.TooMany

abbrev pub placed : List (List ℕ) → List ℕ → Result (ℕ × List (List ℕ)) PlanKind
placed columns found = placed_at (position (bytes_eq found) columns) columns found

-- COLUMN, behind the columns that were named before
unfoldable pub column : List (List ℕ) → Reads (ℕ × List (List ℕ))
column columns = do
  found ← name
  judged (placed columns found)

-- the places of columns, one after the other, behind the places `done`
abbrev pub all_placed : List (List ℕ) → List ℕ → List (List ℕ) → Result (List ℕ × List (List ℕ)) PlanKind
all_placed columns done [] = Ok (done, columns)
all_placed columns done (found ∷ list) = and_then (placed columns found) (λ x. all_placed x.1 (done ++ x.0 ∷ []) list)

-- COLUMNS: at most 64 names, the first columns of the line
unfoldable pub column_list : Reads (List ℕ × List (List ℕ))
column_list = do
  list ← name_list
  if nat_lt 64 (length list) then fails kind.TooMany else gives list
  judged (all_placed [] [] list)
