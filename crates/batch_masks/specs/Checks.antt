-- Whether a row's value meets what a test asks (this project's own).
use Rattle.std.specs.Prelude.{Bool, false, not, List, map, Option, Some, None}
use Rattle.std.specs.declared.cmp.Ordering.{Ordering}
use Rattle.std.specs.Ordering.{nat_cmp, int_cmp, bool_cmp, is_eq, is_lt, is_gt}
use Rattle.std.specs.Cmp.Lexicographic.{slice_cmp}
use Rattle.orc_values.specs.declared.value.Value.{Value}
use Rattle.orc_values.specs.declared.value.Value.TheVariants as value
use Rattle.orc_values.specs.Column.{is_present}
use Rattle.fragment_plan.specs.declared.test.Op.{Op}
use Rattle.fragment_plan.specs.declared.test.Op.TheVariants as op
use Rattle.fragment_plan.specs.declared.test.Check.{Check}
use Rattle.fragment_plan.specs.declared.test.Check.TheVariants as check

-- whether a comparison came out as an operator wants
abbrev pub satisfies : Op → Ordering → Bool
satisfies op.Equal order = is_eq order
satisfies op.NotEqual order = not (is_eq order)
satisfies op.Less order = is_lt order
satisfies op.LessOrEqual order = not (is_gt order)
satisfies op.Greater order = is_gt order
satisfies op.GreaterOrEqual order = not (is_lt order)

-- How a value compares with a literal of its own kind: numbers as numbers, texts by their bytes. Null, and a value of another kind,
-- doesn't compare.
abbrev pub order_of : Value → Value → Option Ordering
order_of (value.Bool a) (value.Bool b) = Some (bool_cmp a b)
order_of (value.Bool a) value.Null = None
order_of (value.Bool a) (value.Int n) = None
order_of (value.Bool a) (value.Text text) = None
order_of (value.Int a) (value.Int b) = Some (int_cmp a b)
order_of (value.Int a) value.Null = None
order_of (value.Int a) (value.Bool b) = None
order_of (value.Int a) (value.Text text) = None
order_of (value.Text a) (value.Text b) = Some (slice_cmp nat_cmp a b)
order_of (value.Text a) value.Null = None
order_of (value.Text a) (value.Bool b) = None
order_of (value.Text a) (value.Int n) = None
order_of value.Null literal = None

-- what doesn't compare meets no operator
abbrev pub is_so : Op → Option Ordering → Bool
is_so o None = false
is_so o (Some order) = satisfies o order

-- whether the check holds of a value: a comparison with a null is false
abbrev pub check_holds : Check → Value → Bool
check_holds (check.Compare o literal) v = is_so o (order_of v literal)
check_holds check.IsNull v = not (is_present v)
check_holds check.IsNotNull v = is_present v

-- of which values of a kind the comparison with a literal holds
abbrev pub holds_of : {A : Type 0} → (A → Value) → Op → Value → List A → List Bool
holds_of kind o literal values = map (check_holds (check.Compare o literal)) (map kind values)
