use Rattle.std.proofs.Common.{◌<◌, ◌≤◌, ◌*◌, length, map, sum, unsigned_abs, arith}
use Rattle.row_texts.proofs.Positive.{small_sum}
use Rattle.row_texts.proofs.lengths.are_small.Goals as goal

pub returns : goal.returns
returns c = λ below.
    let bits = c.bits_of.ensures in
    let least : c.bits_of.result < 4294967296 = grind (arith, below) in
    let sums : sum (map unsigned_abs c.args.lengths.now) ≤ length c.args.lengths.now * 4294967295 =
    small_sum c.args.lengths.now c.bits_of.result c.requires bits.fit bits.within least in
    omega (arith, sums, c.if-lengths.false)
