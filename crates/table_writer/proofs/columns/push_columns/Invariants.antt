use Rattle.std.proofs.Common.{take}
use Rattle.table_writer.specs.Stands.{Stand}
use Rattle.table_writer.proofs.columns.push_columns.Given as goal

abbrev pub invariant-loop-i : goal.invariant-loop-i
invariant-loop-i l = Stand (take l.i l.columns) (record { parts = l.parts.items; encodings = l.encodings.items })
