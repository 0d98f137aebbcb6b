use Rattle.std.proofs.Common.{◌∙◌, arith, FitsSigned, refl}
use Rattle.std.specs.Int.{cast_signed, w64}
use Rattle.std.proofs.lemmas.Int.{to_z-of_z, ints}
use Rattle.orc_integers.specs.RampLaws.{ramp_first, ramp_next, ramp_more}
use Rattle.orc_integers.proofs.ramp.write_ramp.Goals as goal

pub loop-value-init : goal.loop-value-init
loop-value-init c = record {
  made = refl;
  next_is = ramp_first c.args.base (cast_signed w64 c.args.delta) (omega arith);
}

pub loop-value-preserved : goal.loop-value-preserved
loop-value-preserved c =
    let l = c.loop-value in
    let fits : FitsSigned w64 c.cast_signed.result = search (arith, ints) in
    let same = to_z-of_z w64 c.cast_signed.result fits in
    record {
      made = ramp_more (cast_signed w64 c.args.base) (cast_signed w64 c.args.delta) l.into l.value-index _ (omega (arith, c.loop-value-test.true)) l.invariant.made (same ∙ c.cast_signed.ensures ∙ l.invariant.next_is);
      next_is = ramp_next (cast_signed w64 c.args.base) l.next c.args.delta l.value-index (omega arith) (omega arith) l.invariant.next_is;
    }
