use Rattle.std.proofs.Common.{◌≡◌}
use Rattle.std.specs.Vec.{vec_capacity}
use Rattle.board_schedule.specs.Queue.{IsQueueTo}
use Rattle.board_schedule.proofs.calls.renew.Given as goal

abbrev pub invariant-loop-fragment : goal.invariant-loop-fragment
invariant-loop-fragment l = record {
  queue : IsQueueTo l.history.plan l.history.state.statuses l.fragment l.places.items;
  capacity : vec_capacity l.places ≡ vec_capacity l.fn.places;
}
