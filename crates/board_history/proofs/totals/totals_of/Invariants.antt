use Rattle.std.proofs.Common.{length}
use Rattle.board_history.proofs.TotalSteps.{CountedTo}
use Rattle.board_history.proofs.totals.totals_of.Given as goal

abbrev pub invariant-loop-rest : goal.invariant-loop-rest
invariant-loop-rest l = CountedTo l.totals l.rest l.fn.events

abbrev pub decreases-loop-rest : goal.decreases-loop-rest
decreases-loop-rest l = length l.rest
