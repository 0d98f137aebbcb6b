use Rattle.std.proofs.Common.{◌∙◌, ℤ, ◌+ℤ◌, ap, sym, arith, to_z}
use Rattle.std.specs.Int.{w64, w128}
use Rattle.std.proofs.lemmas.Int.{ints, to_z-of_z}
use Rattle.batch_masks.proofs.Numbers.{sum_more}
use Rattle.batch_masks.proofs.total.sum_kept.Goals as goal

pub loop-place-preserved : goal.loop-place-preserved
loop-place-preserved c =
    let is = to_z-of_z w64 c.number_kept.result c.number_kept.ensures.fits in
    let more = sum_more _ _ c.args.mask.now c.args.numbers.now c.loop-place.place c.requires.rows c.loop-place-test.true c.loop-place.invariant.sum in
    let value = c.from-now.ensures ∙ is ∙ c.number_kept.ensures.value in
    let more2 = more ∙ ap (λ (n : ℤ). to_z w128 c.loop-place.now-bits +ℤ n) (sym value) in
    record {
      sum = grind (arith, ints, to_z-of_z, more2);
      bound = record {
        low = omega (arith, ints, is, c.number_kept.ensures.fits, c.loop-place.invariant.bound.low);
        high = omega (arith, ints, is, c.number_kept.ensures.fits, c.loop-place.invariant.bound.high);
      };
    }
