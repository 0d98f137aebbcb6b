use Rattle.std.proofs.Common.{arith}
use Rattle.std.proofs.lemmas.List.Sums.{fold_more}
use Rattle.std.specs.Prelude.{FitsSigned}
use Rattle.std.specs.Int.{w64}
use Rattle.orc_columns.proofs.Summaries.{all_more}
use Rattle.orc_columns.proofs.numbers.with_numbers.Goals as goal

pub loop-number-preserved : goal.loop-number-preserved
loop-number-preserved c = record {
  sum = grind (arith, fold_more);
  most = grind (arith, fold_more);
  high = omega arith;
  fit = all_more (FitsSigned w64) c.args.numbers.now c.loop-number.number-index c.loop-number-test.true c.loop-number.invariant.fit c.place_of.ensures.fits;
  top = omega arith;
}
