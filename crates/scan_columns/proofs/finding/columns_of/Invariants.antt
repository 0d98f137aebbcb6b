use Rattle.scan_columns.proofs.Naming.{Named}
use Rattle.scan_columns.proofs.finding.columns_of.Given as goal

abbrev pub invariant-loop-name : goal.invariant-loop-name
invariant-loop-name l = Named l.tail.columns l.names l.name-index l.columns.items
