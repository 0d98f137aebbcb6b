-- The order of values (this project's own): null, false, true, numbers, and texts by their bytes.
use Rattle.std.specs.Prelude.{ℕ, ℤ, pos, true, false, List, []}
use Rattle.std.specs.declared.cmp.Ordering.{Ordering}
use Rattle.std.specs.Ordering.{nat_cmp, int_cmp, on, then_cmp}
use Rattle.std.specs.Cmp.Lexicographic.{slice_cmp}
use Rattle.orc_values.specs.declared.value.Value.{Value}
use Rattle.orc_values.specs.declared.value.Value.TheVariants as value

-- the place of a value's kind
abbrev pub rank : Value → ℕ
rank value.Null = 0
rank (value.Bool false) = 1
rank (value.Bool true) = 2
rank (value.Int n) = 3
rank (value.Text text) = 4

-- the number that a value is, and 0 of another
abbrev pub number_in : Value → ℤ
number_in value.Null = pos 0
number_in (value.Bool b) = pos 0
number_in (value.Int n) = n
number_in (value.Text text) = pos 0

-- the bytes of a text, and none of another
abbrev pub bytes_in : Value → List ℕ
bytes_in value.Null = []
bytes_in (value.Bool b) = []
bytes_in (value.Int n) = []
bytes_in (value.Text text) = text

-- by kind, then numbers by size, then texts by their bytes
abbrev pub value_cmp : Value → Value → Ordering
value_cmp v w = then_cmp (on rank nat_cmp) (then_cmp (on number_in int_cmp) (on bytes_in (slice_cmp nat_cmp))) v w
