use Rattle.std.proofs.Common.{◌≡◌, ◌++◌}
use Rattle.table_writer.specs.Stands.{directs}
use Rattle.table_writer.proofs.opaque.push_direct.Given as goal

abbrev pub invariant-loop-done : goal.invariant-loop-done
invariant-loop-done l = l.encodings.items ≡ l.fn.encodings.items ++ directs l._done
