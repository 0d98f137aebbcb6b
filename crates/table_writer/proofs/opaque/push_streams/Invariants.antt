use Rattle.std.proofs.Common.{◌≡◌, ◌++◌, take}
use Rattle.table_columns.specs.Files.{as_streams}
use Rattle.table_writer.proofs.opaque.push_streams.Given as goal

abbrev pub invariant-loop-i : goal.invariant-loop-i
invariant-loop-i l = l.parts.items ≡ l.fn.parts.items ++ as_streams l.number (take l.i l.streams)
