-- The files of the world of the tests of stores. Source: this project's own.
use Rattle.std.specs.Prelude.{[], ◌∷◌, codes}
use Rattle.outside.specs.Files.{File, Files}

abbrev pub first_file : File
first_file = (codes "a", 1 ∷ 2 ∷ 3 ∷ [])

abbrev pub second_file : File
second_file = (codes "b", 4 ∷ 5 ∷ 6 ∷ 7 ∷ [])

abbrev pub told_files : Files
told_files = first_file ∷ second_file ∷ []
