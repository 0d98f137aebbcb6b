use Rattle.std.proofs.Common.{arith}
use Rattle.lrfu_policy.proofs.WeightLemmas.{cmp_far_shift}
use Rattle.lrfu_policy.proofs.rank.cmp_shifted.Goals as goal

pub returns-else-right-eq0 : goal.returns-else-right-eq0
returns-else-right-eq0 c = cmp_far_shift c.args.left c.args.right c.args.shift (omega (arith, c.ranges.left.fits)) (omega (arith, c.if-right-eq0.false)) (omega (arith, c.if-shift-lt64.false))
