use Rattle.std.proofs.Common.{◌≡◌, ◌<◌, length, None, IfSome}
use Rattle.board_history.specs.Victims.{last_of, Within}
use Rattle.board_history.proofs.history.History.last_of.Given as goal

abbrev pub invariant-loop-rest : goal.invariant-loop-rest
invariant-loop-rest l = record {
  same : last_of l.self.plan l.self.state.statuses l.last l.rest ≡ last_of l.self.plan l.self.state.statuses None l.fn.runners;
  last : IfSome l.last (λ a. a.fragment < length l.self.plan);
  rest : Within (length l.self.plan) l.rest;
}

abbrev pub decreases-loop-rest : goal.decreases-loop-rest
decreases-loop-rest l = length l.rest
