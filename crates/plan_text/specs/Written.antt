-- Writing a plan plainly (this project's own): a line a fragment, whose words are parted by one space each.
--
-- What is written is put in front of `rest`, which is what the line goes on with.
use Rattle.std.specs.Prelude.{ℕ, List, [], ◌∷◌, ◌++◌, map, slice_index_or, ◌==◌, if◌then◌else◌, codes}
use Rattle.std.specs.Fmt.{signed_decimal}
use Rattle.orc_values.specs.declared.value.Value.{Value}
use Rattle.orc_values.specs.declared.value.Value.TheVariants as value
use Rattle.fragment_plan.specs.declared.test.Op.{Op}
use Rattle.fragment_plan.specs.declared.test.Op.TheVariants.{Equal, NotEqual, Less, LessOrEqual, Greater, GreaterOrEqual}
use Rattle.fragment_plan.specs.declared.test.Check.{Check}
use Rattle.fragment_plan.specs.declared.test.Check.TheVariants.{Compare, IsNull, IsNotNull}
use Rattle.fragment_plan.specs.declared.test.Test.{Test}
use Rattle.fragment_plan.specs.declared.fragment.Fragment.{Fragment}
use Rattle.fragment_plan.specs.declared.fragment.Work.{Work}
use Rattle.fragment_plan.specs.declared.fragment.Work.TheVariants as work
use Rattle.fragment_plan.specs.Fragments.{names_of}
use Rattle.fragment_plan.specs.declared.fragment.FoldKind.{FoldKind}
use Rattle.fragment_plan.specs.declared.fragment.FoldKind.TheVariants as fold

-- a word behind a space
abbrev pub spaced : List ℕ → List ℕ → List ℕ
spaced written rest = 32 ∷ (written ++ rest)

-- a name of a list, by its place
abbrev pub name_at : List (List ℕ) → ℕ → List ℕ
name_at names place = slice_index_or names place []

-- names, joined by commas
abbrev pub joined : List (List ℕ) → List ℕ
joined [] = []
joined (name ∷ []) = name
joined (name ∷ other ∷ names) = name ++ 44 ∷ joined (other ∷ names)

-- the names at these places, as one word
abbrev pub list_text : List (List ℕ) → List ℕ → List ℕ
list_text names places = joined (map (name_at names) places)

abbrev pub op_text : Op → List ℕ
op_text Equal = codes "="
op_text NotEqual = codes "!="
op_text Less = codes "<"
op_text LessOrEqual = codes "<="
op_text Greater = codes ">"
op_text GreaterOrEqual = codes ">="

-- a text in which each quote stands twice, and the quote that closes it
abbrev pub closed_text : List ℕ → List ℕ
closed_text [] = 39 ∷ []
closed_text (b ∷ bytes) = if b == 39 then 39 ∷ 39 ∷ closed_text bytes else b ∷ closed_text bytes

-- a literal; null is none
abbrev pub literal_text : Value → List ℕ
literal_text value.Null = []
literal_text (value.Bool b) = if b then codes "true" else codes "false"
literal_text (value.Int n) = signed_decimal n
literal_text (value.Text bytes) = 39 ∷ closed_text bytes

abbrev pub check_text : Check → List ℕ → List ℕ
check_text (Compare op literal) rest = spaced (op_text op) (spaced (literal_text literal) rest)
check_text IsNull rest = spaced (codes "is") (spaced (codes "null") rest)
check_text IsNotNull rest = spaced (codes "is") (spaced (codes "not") (spaced (codes "null") rest))

abbrev pub test_text : List (List ℕ) → Test → List ℕ → List ℕ
test_text columns test rest = spaced (name_at columns test.column) (check_text test.check rest)

abbrev pub more_text : List (List ℕ) → List Test → List ℕ → List ℕ
more_text columns [] rest = rest
more_text columns (test ∷ tests) rest = spaced (codes "and") (test_text columns test (more_text columns tests rest))

abbrev pub tests_text : List (List ℕ) → List Test → List ℕ → List ℕ
tests_text columns [] rest = rest
tests_text columns (test ∷ tests) rest = spaced (codes "where") (test_text columns test (more_text columns tests rest))

abbrev pub fold_text : List (List ℕ) → FoldKind → List ℕ → List ℕ
fold_text columns (fold.Rows places) rest = spaced (codes "rows") (spaced (list_text columns places) rest)
fold_text columns fold.Count rest = spaced (codes "count") rest
fold_text columns (fold.Sum place) rest = spaced (codes "sum") (spaced (name_at columns place) rest)
fold_text columns (fold.Group place) rest = spaced (codes "group") (spaced (name_at columns place) rest)

-- what a fragment does, where `names` are those of earlier lines
abbrev pub work_text : List (List ℕ) → Work → List ℕ → List ℕ
work_text names (work.Scan scan) rest =
    fold_text scan.columns scan.fold (spaced (codes "from") (spaced scan.file (tests_text scan.columns scan.tests rest)))
work_text names (work.Merge sources) rest = spaced (codes "merge") (spaced (list_text names sources) rest)

abbrev pub after_text : List (List ℕ) → List ℕ → List ℕ → List ℕ
after_text names [] rest = rest
after_text names (first ∷ others) rest = spaced (codes "after") (spaced (list_text names (first ∷ others)) rest)

-- the line of a fragment, behind lines of fragments of these names
abbrev pub line_text : List (List ℕ) → Fragment → List ℕ
line_text names fragment = fragment.name ++ work_text names fragment.work (after_text names fragment.after [])

-- the lines of fragments, behind the fragments `before`, each with the byte 0A that ends it
abbrev pub lines_text : List Fragment → List Fragment → List ℕ
lines_text before [] = []
lines_text before (one ∷ others) = line_text (names_of before) one ++ 10 ∷ lines_text (before ++ one ∷ []) others

-- a plan, written plainly
abbrev pub plan_text : List Fragment → List ℕ
plan_text fragments = lines_text [] fragments
