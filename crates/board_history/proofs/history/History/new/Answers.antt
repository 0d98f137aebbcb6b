use Rattle.std.proofs.Common.{rules, sym, ◌∙◌, arith}
use Rattle.board_history.proofs.Adding.{no_events, running_none}
use Rattle.board_history.proofs.history.History.new.Goals as goal

pub invariant_of-result : goal.invariant_of-result
invariant_of-result c =
    let same = c.fragments-count.ensures.list ∙ sym c.in_ok-again.ensures in
    let s = rw same at (c.in-Ok.ensures.items_if_clones_equal (λ y e. e)) in
    let n = rw same at (c.in-Ok-from_elem.ensures.items_if_clones_equal (λ y e. e)) in
    let r = c.in-Ok-from_elem-2.ensures.items_if_clones_equal (λ y e. search rules) in (
      rw (s, n, r, c.new.ensures.items) (no_events c.in_ok-again.field-0 c.args.executors c.args.room (rw (← same) (omega arith))),
      rw r (sym (running_none c.args.executors)),
      rw c.new.ensures.items (omega arith),
    )
