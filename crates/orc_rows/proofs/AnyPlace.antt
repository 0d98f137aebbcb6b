-- What a column is doesn't depend on its place among those that are read.
use Rattle.std.proofs.Common.{ℕ, List}
use Rattle.orc_values.specs.declared.value.Value.{Value}
use Rattle.orc_columns.specs.declared.fault.ColumnFault.{ColumnFault}
use Rattle.orc_columns.specs.Column.{Streams, IsColumn, Fails}
use Rattle.orc_streams.specs.declared.layout.ColumnLayout.{ColumnLayout}
use Rattle.orc_streams.specs.Layout.{plan_at}

pub column_anywhere : (i j : ℕ) (l : ColumnLayout) (s : Streams) (values : List Value) → IsColumn (plan_at i l) s values → IsColumn (plan_at j l) s values
column_anywhere i j l s values c = record {
  spelling = c.spelling;
  flags = c.flags;
  values = c.values;
  spelled = c.spelled;
  present = c.present;
  enough = c.enough;
  standing = c.standing;
  rows_are = c.rows_are;
}

pub fails_anywhere : (i j : ℕ) (l : ColumnLayout) (s : Streams) (rows : ℕ) (fault : ColumnFault) → Fails (plan_at i l) s rows fault → Fails (plan_at j l) s rows fault
fails_anywhere i j l s rows _ (Fails.encoding none) = Fails.encoding none
fails_anywhere i j l s rows _ (Fails.nulls spelling spelled breaks) = Fails.nulls spelling spelled breaks
fails_anywhere i j l s rows _ (Fails.values spelling flags spelled count present fails) = Fails.values spelling flags spelled count present fails
