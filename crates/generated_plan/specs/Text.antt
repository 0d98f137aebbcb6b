-- The name of a generated file, and the plan that is run over it. Source: this project's own.
use Rattle.std.specs.Prelude.{ℕ, ◌+◌, List, [], ◌∷◌, ◌++◌, codes}
use Rattle.std.specs.Fmt.{decimal}

-- the name of the file of a number and so many rows
unfoldable pub file_name : ℕ → ℕ → List ℕ
file_name number rows = codes "gen-" ++ (decimal number ++ (codes "-" ++ (decimal rows ++ codes ".orc")))

-- the plan's lines over the file of that name and number
abbrev pub plan_lines : List ℕ → ℕ → List (List ℕ)
plan_lines file number =
    (codes "n count from " ++ file)
    ∷ (codes "s sum id from " ++ file)
    ∷ (codes "q sum qty from " ++ file)
    ∷ codes "m merge s,q"
    ∷ (codes "g group city from " ++ file)
    ∷ (codes "f count from " ++ (file ++ (codes " where even = true and id < " ++ decimal (number + 1000))))
    ∷ (codes "r rows id,note from " ++ (file ++ (codes " where id < " ++ decimal (number + 3))))
    ∷ []

-- lines, each with the byte that ends it
abbrev pub text_of : List (List ℕ) → List ℕ
text_of [] = []
text_of (line ∷ lines) = line ++ 10 ∷ text_of lines

-- the plan over the file of a number and so many rows
unfoldable pub generated_plan : ℕ → ℕ → List ℕ
generated_plan number rows = text_of (plan_lines (file_name number rows) number)
