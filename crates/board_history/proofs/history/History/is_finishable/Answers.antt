use Rattle.std.proofs.Common.{◌≡◌, ◌<◌, sym, ◌∙◌, ap, length, get_or, subst}
use Rattle.board_history.specs.Histories.{HistoryOf}
use Rattle.board_history.specs.Order.{is_finishable}
use Rattle.board_history.proofs.Finishing.{finishable_all, finishable_none}
use Rattle.board_history.proofs.history.History.is_finishable.Goals as goal

pub returns-then-are_sources_ended : goal.returns-then-are_sources_ended
returns-then-are_sources_ended c =
    let within : c.args.fragment < length c.self.inside.plan = rw (← c.self.view_is) at c.requires in
    let first = simp c.as_slice-statuses.ensures.value at c.are_sources_ended.ensures in
    let second = simp (c.as_slice-statuses.ensures.value, c.as_slice.ensures) at c.all_ended.ensures in
    subst (λ (h : HistoryOf). c.all_ended.result ≡ is_finishable h.plan h.state.statuses c.args.fragment) c.self.view_is
    (finishable_all c.self.inside.plan c.self.inside.statuses.items c.args.fragment c.index-fragments-fragment.result within
    (c.index-fragments-fragment.is ∙ ap (λ xs. get_or xs c.args.fragment c.index-fragments-fragment.result) c.fragments.ensures.list)
    c.all_ended.result (sym first ∙ c.if-are_sources_ended.true) second)

pub returns-else-are_sources_ended : goal.returns-else-are_sources_ended
returns-else-are_sources_ended c =
    let within : c.args.fragment < length c.self.inside.plan = rw (← c.self.view_is) at c.requires in
    let first = simp c.as_slice-statuses.ensures.value at c.are_sources_ended.ensures in
    subst (λ (h : HistoryOf). c.are_sources_ended.result ≡ is_finishable h.plan h.state.statuses c.args.fragment) c.self.view_is
    (finishable_none c.self.inside.plan c.self.inside.statuses.items c.args.fragment c.index-fragments-fragment.result within
    (c.index-fragments-fragment.is ∙ ap (λ xs. get_or xs c.args.fragment c.index-fragments-fragment.result) c.fragments.ensures.list)
    c.are_sources_ended.result first c.if-are_sources_ended.false)
