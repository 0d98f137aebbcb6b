use Rattle.std.proofs.Common.{◌∙◌, ℤ, ◌+ℤ◌, ap, sym, arith, to_z}
use Rattle.std.specs.Int.{w64, w128}
use Rattle.std.proofs.lemmas.Int.{ints, to_z-of_z}
use Rattle.batch_masks.proofs.Dense.{plus_more}
use Rattle.batch_masks.proofs.whole.sum_wide.Goals as goal

pub loop-row-preserved : goal.loop-row-preserved
loop-row-preserved c =
    let is = to_z-of_z w64 c.number_at.result c.number_at.ensures.fits in
    let more = plus_more _ _ c.args.numbers.now c.loop-row.row c.loop-row-test.true c.loop-row.invariant.sum in
    let value = c.from-now.ensures ∙ is ∙ c.number_at.ensures.value in
    let more2 = more ∙ ap (λ (n : ℤ). to_z w128 c.loop-row.now-bits +ℤ n) (sym value) in
    record {
      sum = grind (arith, ints, to_z-of_z, more2);
      bound = record {
        low = omega (arith, ints, is, c.number_at.ensures.fits, c.loop-row.invariant.bound.low);
        high = omega (arith, ints, is, c.number_at.ensures.fits, c.loop-row.invariant.bound.high);
      };
    }
