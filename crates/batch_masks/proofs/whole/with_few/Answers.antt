use Rattle.std.proofs.Common.{◌∙◌, arith}
use Rattle.std.specs.Int.{w64, w128}
use Rattle.std.proofs.lemmas.Int.{ints, to_z-of_z}
use Rattle.batch_masks.proofs.Numbers.{SumOfFew-fits}
use Rattle.batch_masks.proofs.Dense.{plus_from_zero}
use Rattle.batch_masks.proofs.whole.with_few.Goals as goal

pub returns-clause-sum : goal.returns-clause-sum
returns-clause-sum c =
    let is = to_z-of_z w64 c.args.few c.requires.fits in
    let value = c.from.ensures ∙ is ∙ c.requires.known in
    let fits = SumOfFew-fits c.args.given c.args.sum c.requires.bound (omega (arith, c.requires.few)) in
    let own = to_z-of_z w128 c.args.sum fits in
    let all = plus_from_zero c.args.sum c.args.numbers.now in
    grind (arith, ints, to_z-of_z, own, value, all, c.requires.fits, c.requires.bound.low, c.requires.bound.high)
