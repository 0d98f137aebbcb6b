use Rattle.std.proofs.Common.{arith, ap, ◌∙◌, Some, refl}
use Rattle.board_schedule.proofs.Steps.{queue_added, queue_skipped}
use Rattle.board_schedule.proofs.calls.add.Goals as goal

pub returns-in-Waiting-clause-queue : goal.returns-in-Waiting-clause-queue
returns-in-Waiting-clause-queue c =
    let law = c.the_order_is_total.ensures in
    queue_added c.args.history.now.plan c.args.history.now.state.statuses law.irreflexive law.transitive law.total c.args.fragment _ c.args.places.now.items _
    c.place.result c.requires.queue (c.status.ensures ∙ ap Some c.in-Waiting.is) c.place.ensures c.put.ensures.places (omega arith)

pub returns-in_default : goal.returns-in_default
returns-in_default c = record {
  queue = queue_skipped c.args.history.now.plan c.args.history.now.state.statuses c.args.fragment _ c.args.places.now.items c.status.result c.requires.queue
      c.status.ensures c.in_default.not-Waiting (omega arith);
  capacity = refl;
}
