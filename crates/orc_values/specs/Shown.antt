-- What a borrowed value shows.
use Rattle.orc_values.specs.declared.value.Value.{Value}
use Rattle.orc_values.specs.declared.value.Value.TheVariants as value
use Rattle.orc_values.specs.declared.value.ValueRef.{ValueRef}
use Rattle.orc_values.specs.declared.value.ValueRef.TheVariants as lent

-- the value that a borrowed one shows
abbrev pub shown : ValueRef → Value
shown lent.Null = value.Null
shown (lent.Bool b) = value.Bool b
shown (lent.Int n) = value.Int n
shown (lent.Text bytes) = value.Text bytes.now
