use Rattle.std.proofs.Common.{sym, arith}
use Rattle.std.proofs.Math.Nat.{div-eq_of_lt}
use Rattle.lrfu_policy.proofs.WeightLemmas.{far_power}
use Rattle.lrfu_policy.proofs.sync.halved.Goals as goal

pub returns-else-times-lt64 : goal.returns-else-times-lt64
returns-else-times-lt64 c =
    sym (div-eq_of_lt (omega (arith, c.ranges.s.fits, far_power c.args.times (omega (arith, c.if-times-lt64.false)))))
