use Rattle.std.proofs.Common.{length, None, subst, sym, ap, ◌∙◌}
use Rattle.board_history.specs.Legal.{IsLastBlockedOf}
use Rattle.board_history.specs.Histories.{HistoryOf}
use Rattle.board_history.specs.Victims.{last_of, Within}
use Rattle.board_history.proofs.LastBlocked.{runners_within, last_is}
use Rattle.board_history.proofs.history.History.last_blocked.Goals as goal

pub last_of-requires : goal.last_of-requires
last_of-requires c =
    subst (λ (h : HistoryOf). Within (length h.plan) c.as_slice.result.now) c.self.view_is
    (subst (Within (length c.self.inside.plan)) (sym c.as_slice.ensures.value) (runners_within _ _ _ _ c.self.invariant.0.sound))

pub returns : goal.returns
returns c =
    let runners = c.self.inside.runners.items in
    let found =
    c.last_of.ensures
    ∙ (ap (last_of c.args.self.now.plan c.args.self.now.state.statuses None) c.as_slice.ensures.value
    ∙ sym (ap (λ (h : HistoryOf). last_of h.plan h.state.statuses None runners) c.self.view_is)) in
    subst (λ (h : HistoryOf). IsLastBlockedOf h.plan h.state.statuses c.last_of.result) c.self.view_is
    (last_is _ _ _ _ c.self.invariant.0.sound c.last_of.result found)
