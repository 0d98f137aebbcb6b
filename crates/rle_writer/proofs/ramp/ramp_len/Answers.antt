use Rattle.std.proofs.Common.{arith, get_or, pos, refl, sym, ap, ◌∙◌}
use Rattle.std.specs.Int.{cast_signed, w64}
use Rattle.rle_writer.proofs.Steps.{ramp_first, ramp_next, ramp_more}
use Rattle.rle_writer.proofs.ramp.ramp_len.Goals as goal

pub loop-len-init : goal.loop-len-init
loop-len-init c = record {
  within = omega arith;
  most = omega arith;
  ramp = refl;
  next_is = ramp_first (get_or c.args.values.now 0 (pos 0)) c.bits_of_value-next.result (cast_signed w64 c.args.step) c.bits_of_value-next.type_inv c.bits_of_value-next.ensures;
}

pub loop-len-preserved : goal.loop-len-preserved
loop-len-preserved c =
    let l = c.loop-len in
    let values = c.args.values.now in
    let base = get_or values 0 (pos 0) in
    let same = sym c.bits_of_value.ensures ∙ ap (cast_signed w64) c.if-bits_of_value-next.true in
    record {
      within = omega (arith, c.loop-len-test.true);
      most = omega (arith, c.if-len-most.true);
      ramp = ramp_more base (cast_signed w64 c.args.step) values l.len (omega (arith, c.loop-len-test.true)) l.invariant.ramp (same ∙ l.invariant.next_is);
      next_is = ramp_next base l.next c.args.step l.len (omega (arith, l.auto.next-fits)) (omega (arith, c.ranges.step.fits)) l.invariant.next_is;
    }
