use Rattle.std.proofs.Common.{All}
use Rattle.orc_writer.specs.Given.{IsSpec}
use Rattle.table_tests.proofs.writers.specs_of.Given as goal

abbrev pub invariant-loop-i : goal.invariant-loop-i
invariant-loop-i l = All IsSpec l.specs.items
