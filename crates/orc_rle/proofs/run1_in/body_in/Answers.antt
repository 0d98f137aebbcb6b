use Rattle.std.proofs.Common.{◌≤◌, ◌<◌, arith}
use Rattle.orc_rle.proofs.RunsIn.{literals-read}
use Rattle.orc_rle.proofs.run1_in.body_in.Goals as goal

pub returns-else-control-lt128 : goal.returns-else-control-lt128
returns-else-control-lt128 c =
    let a = c.args in
    let ge : 128 ≤ a.control = omega (arith, c.if-control-lt128.false) in
    let lt : a.control < 256 = omega (arith, c.ranges.control.fits) in
    literals-read a.signed a.control a.bytes.now a.into.now c.integers_in.new.into ge lt c.requires c.integers_in.auto.into c.integers_in.result c.integers_in.ensures
