use Rattle.std.proofs.Common.{◌<◌, length, arith}
use Rattle.group_counts.proofs.Moved.{slots-next}
use Rattle.group_counts.proofs.counts.Counts.add_slots.Goals as goal

pub loop-slot-preserved : goal.loop-slot-preserved
loop-slot-preserved c =
    let l = c.loop-slot in
    let within : l.slot-index < length c.args.slots.now = omega arith in
    slots-next c.args.self.now l.self _ c.args.slots.now l.slot-index _ within l.invariant c.in_ok-add_counted.ensures
