use Rattle.std.proofs.Common.{arith, ◌<◌, length, drop, ◌∷◌, ap, ◌∙◌, sym, refl}
use Rattle.board_history.specs.declared.status.FragmentStatus.TheVariants.{Waiting}
use Rattle.board_schedule.proofs.Steps.{some_there, split_first, first_there, within_plan, schedule_started}
use Rattle.board_schedule.proofs.calls.start.Goals as goal

pub number-requires : goal.number-requires
number-requires c =
    let ps = c.args.places.now.items in
    let some : 0 < length ps = some_there _ (length ps) c.is_empty.result c.is_empty.ensures c.if-is_empty.false (omega (arith, c.args.places.now.ok.0)) in
    let split = split_first ps c.index.result.now some c.index.ensures in
    let first = first_there c.args.history.now ps (drop 1 ps) _ c.index.result.now c.requires.schedule split in
    within_plan c.args.history.now c.index.result.now.fragment Waiting c.is_sound.ensures.sound first.0.waits_there

pub returns-clause-schedule : goal.returns-clause-schedule
returns-clause-schedule c =
    let ps = c.args.places.now.items in
    let some : 0 < length ps = some_there _ (length ps) c.is_empty.result c.is_empty.ensures c.if-is_empty.false (omega (arith, c.args.places.now.ok.0)) in
    let split = split_first ps c.index.result.now some c.index.ensures in
    let first = first_there c.args.history.now ps (drop 1 ps) _ c.index.result.now c.requires.schedule split in
    let law = c.the_order_is_total.ensures in
    schedule_started law.irreflexive law.transitive law.total c.args.history.now _ ps _ _ _ c.index.result.now _ c.requires.schedule
    (split ∙ ap (λ l. c.index.result.now ∷ l) (sym c.remove.ensures.items)) refl c.in_ok-started.ensures.ok c.remove.ensures.capacity
