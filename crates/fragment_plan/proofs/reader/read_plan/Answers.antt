use Rattle.std.proofs.Common.{◌+◌}
use Rattle.fragment_plan.proofs.PlanSteps.{ended}
use Rattle.fragment_plan.proofs.reader.read_plan.Goals as goal

pub new-requires : goal.new-requires
new-requires c = (
  c.args.bytes.now,
  ended c.args.bytes.now c.loop-line.lines (c.loop-line.number + 1) c.loop-line.fragments c.into_vec.result.items
      c.if-bytes-gt-MOST_BYTES.false c.in_default.ensures.0 c.loop-line.invariant.0 c.into_vec.ensures,
)
