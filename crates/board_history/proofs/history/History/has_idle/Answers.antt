use Rattle.std.proofs.Common.{◌≡◌, ◌≢◌, ℕ, Some, None, slice_get, nat_lt, subst, arith}
use Rattle.std.specs.Bool.{MatchBool}
use Rattle.board_history.specs.Histories.{HistoryOf}
use Rattle.board_history.proofs.Adding.{has_idle}
use Rattle.board_history.proofs.history.History.has_idle.Goals as goal

pub returns : goal.returns
returns c =
    subst (λ (h : HistoryOf). MatchBool (nat_lt c.self.inside.busy c.len.result) ((k : ℕ) × (slice_get h.state.runners k ≡ Some None)) ((k : ℕ) → slice_get h.state.runners k ≢ Some None))
    c.self.view_is (has_idle c.self.inside.runners.items c.self.inside.busy c.len.result c.self.invariant.1 (omega (arith, c.len.ensures, c.self.inside.runners.ok.0)))
