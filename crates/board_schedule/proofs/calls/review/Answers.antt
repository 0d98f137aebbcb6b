use Rattle.std.proofs.Common.{arith, ◌<◌, length, drop, refl}
use Rattle.board_schedule.proofs.Steps.{some_there, split_first, first_there, none_finishes, schedule_preempted}
use Rattle.board_schedule.proofs.calls.review.Goals as goal

pub returns-then-first-clause-reviews : goal.returns-then-first-clause-reviews
returns-then-first-clause-reviews c =
    let ps = c.args.places.now.items in
    let some : 0 < length ps = some_there _ (length ps) c.is_empty.result c.is_empty.ensures c.if-is_empty.false (omega (arith, c.args.places.now.ok.0)) in
    let split = split_first ps c.index-first.result.now some c.index-first.ensures in
    let first = first_there c.args.history.now ps (drop 1 ps) _ c.index-first.result.now c.requires split in
    ((λ f a presses. none_finishes c.args.history.now c.index-first.result.now f a first.0 first.1 c.if-first.true presses), refl)

pub returns-clause-schedule : goal.returns-clause-schedule
returns-clause-schedule c =
    let law = c.the_order_is_total.ensures in
    schedule_preempted law.irreflexive law.transitive law.total c.args.history.now _ c.args.places.now.items _ c.in_ok-victim.victim c.index-first.result.now.fragment
    c.requires c.in_ok-victim.ensures.runs c.preempted.ensures
