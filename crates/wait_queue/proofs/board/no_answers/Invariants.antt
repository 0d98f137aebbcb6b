use Rattle.std.proofs.Common.{◌≡◌, replicate, None}
use Rattle.wait_queue.proofs.board.no_answers.Given as goal

abbrev pub invariant-loop-done : goal.invariant-loop-done
invariant-loop-done l = l.answers.items ≡ replicate l.done None
