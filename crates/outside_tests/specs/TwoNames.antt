-- The names of the files that the tests of a folder write. Source: this project's own.
use Rattle.std.specs.Prelude.{ℕ, List, [], ◌∷◌, codes}

abbrev pub two_names : List (List ℕ)
two_names = codes "folder_a.orc" ∷ codes "folder_b.orc" ∷ []
