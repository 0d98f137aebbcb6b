-- The tests of a scan (this project's own).
--
--   tests := nothing | "where" test { "and" test }
--   test  := COLUMN OP LITERAL | COLUMN "is" "null" | COLUMN "is" "not" "null"
use Rattle.std.specs.Prelude.{ℕ, zero, suc, Bool, true, false, List, [], ◌∷◌, ◌++◌, if◌then◌else◌, Option, Some, None, codes}
use Rattle.std.specs.Str.{bytes_eq}
use Rattle.orc_values.specs.declared.value.Value.{Value}
use Rattle.orc_values.specs.declared.value.Value.TheVariants as value
use Rattle.plan_words.specs.declared.fault.PlanKind.TheVariants as kind
use Rattle.plan_words.specs.Reading.{Reads, ◌>>=◌, ◌>>◌, gives, fails, word, keyword, option, name}
use Rattle.plan_words.specs.Literals.{literal}
use Rattle.fragment_plan.specs.declared.test.Op.{Op}
use Rattle.fragment_plan.specs.declared.test.Op.TheVariants.{Equal, NotEqual, Less, LessOrEqual, Greater, GreaterOrEqual}
use Rattle.fragment_plan.specs.declared.test.Check.{Check}
use Rattle.fragment_plan.specs.declared.test.Check.TheVariants.{Compare, IsNull, IsNotNull}
use Rattle.fragment_plan.specs.declared.test.Test.{Test}
use Rattle.plan_names.specs.Columns.{column}

-- OP
abbrev pub op_of : List ℕ → Option Op
op_of found =
    if bytes_eq found (codes "=") then Some Equal
    else if bytes_eq found (codes "!=") then Some NotEqual
    else if bytes_eq found (codes "<") then Some Less
    else if bytes_eq found (codes "<=") then Some LessOrEqual
    else if bytes_eq found (codes ">") then Some Greater
    else if bytes_eq found (codes ">=") then Some GreaterOrEqual
    else None

-- whether truth values are compared by it
abbrev pub is_equality : Op → Bool
is_equality Equal = true
is_equality NotEqual = true
is_equality Less = false
is_equality LessOrEqual = false
is_equality Greater = false
is_equality GreaterOrEqual = false

-- whether a literal may stand behind the operator
abbrev pub may_compare : Op → Value → Bool
may_compare op (value.Bool b) = is_equality op
may_compare op value.Null = true
may_compare op (value.Int n) = true
may_compare op (value.Text bytes) = true

-- behind an operator: LITERAL
abbrev pub compared : Option Op → Reads Check
compared None = fails kind.BadWord
compared (Some op) = do
  found ← literal
  if may_compare op found then gives (Compare op found) else fails kind.BadLiteral

-- behind "is": "null" | "not" "null"
abbrev pub null_check_by : Bool → Reads Check
null_check_by negated = do
  keyword (codes "null")
  gives (if negated then IsNotNull else IsNull)

unfoldable pub null_check : Reads Check
null_check = do
  negated ← option (codes "not")
  null_check_by negated

-- what stands behind the column of a test
abbrev pub check_by : List ℕ → Reads Check
check_by found = if bytes_eq found (codes "is") then null_check else compared (op_of found)

unfoldable pub check : Reads Check
check = do
  found ← word
  check_by found

-- one test, with the columns that are named then
unfoldable pub one_test : List (List ℕ) → Reads (Test × List (List ℕ))
one_test columns = do
  at ← column columns
  asked ← check
  gives (record { column = at.0; check = asked }, at.1)

-- test { "and" test }, behind the tests `done`, where `room` more fit: one more is too many at its COLUMN
unfoldable pub more_tests : ℕ → List (List ℕ) → List Test → Reads (List Test × List (List ℕ))
more_tests zero columns done = do
  name
  fails kind.TooMany
more_tests (suc room) columns done = do
  one ← one_test columns
  goes_on ← option (codes "and")
  if goes_on then more_tests room one.1 (done ++ one.0 ∷ []) else gives (done ++ one.0 ∷ [], one.1)

-- nothing | "where" test { "and" test }, with at most 16 tests
unfoldable pub tests : List (List ℕ) → Reads (List Test × List (List ℕ))
tests columns = do
  some ← option (codes "where")
  if some then more_tests 16 columns [] else gives ([], columns)
