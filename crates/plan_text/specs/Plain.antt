-- What a fragment must be to stand in a plan (this project's own), in terms of its fields alone.
use Rattle.std.specs.Prelude.{◌≡◌, ℕ, suc, ◌<◌, ◌≤◌, ◌^◌, List, [], ◌∷◌, ◌++◌, length, map, position, nat_lt}
use Rattle.std.specs.Prelude.{◌==◌, not, if◌then◌else◌, Option, Some, None, true, pos, negsuc, All}
use Rattle.std.specs.List.{list_all}
use Rattle.std.specs.Str.{bytes_eq}
use Rattle.orc_values.specs.declared.value.Value.{Value}
use Rattle.orc_values.specs.declared.value.Value.TheVariants as value
use Rattle.plan_words.specs.Names.{is_name, is_file_name}
use Rattle.fragment_plan.specs.declared.test.Check.{Check}
use Rattle.fragment_plan.specs.declared.test.Check.TheVariants.{Compare, IsNull, IsNotNull}
use Rattle.fragment_plan.specs.declared.test.Test.{Test}
use Rattle.fragment_plan.specs.declared.fragment.Fragment.{Fragment}
use Rattle.fragment_plan.specs.declared.fragment.Scan.{Scan}
use Rattle.fragment_plan.specs.declared.fragment.Work.{Work}
use Rattle.fragment_plan.specs.declared.fragment.Work.TheVariants as work
use Rattle.fragment_plan.specs.declared.fragment.FoldKind.{FoldKind}
use Rattle.fragment_plan.specs.declared.fragment.FoldKind.TheVariants as fold
use Rattle.fragment_plan.specs.declared.shape.Shape.{Shape}
use Rattle.fragment_plan.specs.Tests.{may_compare}
use Rattle.fragment_plan.specs.Shapes.{is_whole, shapes_of}
use Rattle.fragment_plan.specs.Fragments.{names_of}
use Rattle.plan_text.specs.Written.{name_at}

-- each name stands at its own place first: no name stands twice
abbrev pub IsDistinct : List (List ℕ) → Type 0
IsDistinct names = (k : ℕ) → k < length names → position (bytes_eq (name_at names k)) names ≡ Some k

-- How many columns are named when these places were, where `n` were named before: each place is that of a column
-- that was named, or the next one. None where one is neither.
abbrev pub named : ℕ → List ℕ → Option ℕ
named n [] = Some n
named n (place ∷ places) = if nat_lt place n then named n places else if place == n then named (suc n) places else None

-- a number fits 64 bits, and a text holds any byte but 0A
abbrev pub IsLiteral : Value → Type 0
IsLiteral value.Null = ⊥
IsLiteral (value.Bool b) = Unit {0}
IsLiteral (value.Int (pos n)) = n < 2 ^ 63
IsLiteral (value.Int (negsuc n)) = n < 2 ^ 63
IsLiteral (value.Text bytes) = list_all (λ b. not (b == 10)) bytes ≡ true

abbrev pub IsCheck : Check → Type 0
IsCheck (Compare op literal) = IsLiteral literal × (may_compare op literal ≡ true)
IsCheck IsNull = Unit {0}
IsCheck IsNotNull = Unit {0}

abbrev pub AreChecks : List Test → Type 0
AreChecks [] = Unit {0}
AreChecks (test ∷ tests) = IsCheck test.check × AreChecks tests

-- a list of `rows` has 1 to 64 columns
abbrev pub IsFold : FoldKind → Type 0
IsFold (fold.Rows places) = (1 ≤ length places) × (length places ≤ 64)
IsFold fold.Count = Unit {0}
IsFold (fold.Sum place) = Unit {0}
IsFold (fold.Group place) = Unit {0}

-- the places of a fold's columns, in the order of the line
abbrev pub places_of : FoldKind → List ℕ
places_of (fold.Rows places) = places
places_of fold.Count = []
places_of (fold.Sum place) = place ∷ []
places_of (fold.Group place) = place ∷ []

pub record IsScan (scan : Scan) : Type 0 where
  pub file_is : is_file_name scan.file ≡ true
  pub columns_are : list_all is_name scan.columns ≡ true
  pub distinct : IsDistinct scan.columns
  pub few : length scan.columns ≤ 16
  pub fold_is : IsFold scan.fold
  -- so many columns are named behind the fold, and all of them behind the tests
  pub behind : ℕ
  pub fold_names : named 0 (places_of scan.fold) ≡ Some behind
  pub tests_name : named behind (map (λ test. test.column) scan.tests) ≡ Some (length scan.columns)
  pub tests_few : length scan.tests ≤ 16
  pub tests_are : AreChecks scan.tests

-- at most 64 earlier fragments
pub record AreEarlier (earlier : ℕ) (numbers : List ℕ) : Type 0 where
  pub below : All (λ number. number < earlier) numbers
  pub few : length numbers ≤ 64

abbrev pub IsWork : ℕ → Work → Type 0
IsWork earlier (work.Scan scan) = IsScan scan
IsWork earlier (work.Merge sources) = AreEarlier earlier sources × (1 ≤ length sources)

-- what a fragment must be to stand behind fragments of these names and shapes
pub record IsPlain (names : List (List ℕ)) (shapes : List Shape) (fragment : Fragment) : Type 0 where
  pub name_is : is_name fragment.name ≡ true
  pub fresh : position (bytes_eq fragment.name) names ≡ None
  pub room : length names < 1000
  pub work_is : IsWork (length names) fragment.work
  pub whole : is_whole shapes fragment.work ≡ true
  pub after_is : AreEarlier (length names) fragment.after

-- fragments that may stand in a plan, behind the fragments `before`
abbrev pub ArePlain : List Fragment → List Fragment → Type 0
ArePlain before [] = Unit {0}
ArePlain before (one ∷ others) = IsPlain (names_of before) (shapes_of before) one × ArePlain (before ++ one ∷ []) others
