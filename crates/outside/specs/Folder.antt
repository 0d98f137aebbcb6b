-- The names of a folder's files, and what a store over them shows. Source: this project's own.
use Rattle.std.specs.Prelude.{◌≡◌, ℕ, ◌≤◌, List, length, AllPairs}
use Rattle.std.specs.Ordering.{nat_cmp}
use Rattle.std.specs.declared.cmp.Ordering.TheVariants.{Less}
use Rattle.std.specs.Cmp.Lexicographic.{slice_cmp}

-- one name stands before another in the order of their bytes
abbrev pub Before : List ℕ → List ℕ → Type 0
Before name other = slice_cmp nat_cmp name other ≡ Less

-- A folder's names: at most 4,095, each before all later ones. So they are sorted by their bytes, and each stands once.
pub record AreNames (names : List (List ℕ)) : Type 0 where
  pub few : length names ≤ 4095
  pub ordered : AllPairs Before names

-- The names that it was made with, and how often a call has failed.
pub record FolderOf : Type 0 where
  pub names : List (List ℕ)
  pub faults : ℕ
