use Rattle.std.proofs.Common.{◌≡◌, length, slice_get}
use Rattle.std.specs.List.{list_all}
use Rattle.board_history.specs.Order.{ended_in}
use Rattle.board_history.proofs.history.all_ended.Given as goal

abbrev pub invariant-loop-rest : goal.invariant-loop-rest
invariant-loop-rest l = list_all (λ g. ended_in (slice_get l.fn.statuses g)) l.rest ≡ list_all (λ g. ended_in (slice_get l.fn.statuses g)) l.fn.named

abbrev pub decreases-loop-rest : goal.decreases-loop-rest
decreases-loop-rest l = length l.rest
