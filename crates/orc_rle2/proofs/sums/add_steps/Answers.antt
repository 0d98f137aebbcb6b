use Rattle.std.proofs.Common.{◌≡◌, ◌∙◌, ℕ, ◌<◌, ◌∷◌, List, ℤ, length, get_or, take, map, ap, sym, arith, FitsSigned, pos}
use Rattle.std.specs.Int.{cast_signed, cast_unsigned, w64}
use Rattle.std.proofs.lemmas.Int.{to_z-of_z, ints}
use Rattle.std.proofs.lemmas.List.{take_all}
use Rattle.std.proofs.lemmas.Simd.{map-map}
use Rattle.orc_integers.specs.Integers.{wrapped_sum}
use Rattle.orc_rle2.specs.Integers.{with_sign, sums}
use Rattle.orc_rle2.proofs.InPlace.{over_rest}
use Rattle.orc_rle2.proofs.WrappedSums.{sum_after, signed_step, steps_more, steps_next}
use Rattle.orc_rle2.proofs.sums.add_steps.Goals as goal

pub loop-magnitude-preserved : goal.loop-magnitude-preserved
loop-magnitude-preserved c =
    let l = c.loop-magnitude in
    let i = l.magnitude-index in
    let old = c.args.magnitudes.now in
    let value = cast_signed w64 c.args.value in
    let delta = cast_signed w64 c.args.delta in
    let steps = map (signed_step delta) (take i old) in
    let within : i < length l.magnitudes = omega (arith, c.loop-magnitude-test.true) in
    let within_old : i < length old = omega (arith, l.auto.magnitudes) in
    let fits_now : FitsSigned w64 (get_or l.magnitudes i (pos 0)) = search (arith, ints) in
    let magnitude : c.cast_unsigned.result ≡ cast_unsigned w64 (get_or old i (pos 0)) = c.cast_unsigned.ensures ∙ ap (cast_unsigned w64) (to_z-of_z w64 (get_or l.magnitudes i (pos 0)) fits_now ∙ l.invariant.rest i (omega arith)) in
    let fits : FitsSigned w64 c.cast_signed.result = search (arith, ints) in
    let next : cast_signed w64 c.stepped-next.result ≡ wrapped_sum (sum_after value steps) (signed_step delta (get_or old i (pos 0))) =
    c.stepped-next.ensures ∙ ap (λ (z : ℤ). wrapped_sum z (with_sign delta c.cast_unsigned.result)) l.invariant.next_is ∙ ap (λ (n : ℕ). wrapped_sum (sum_after value steps) (with_sign delta n)) magnitude in
    record {
      made = steps_more value delta l.magnitudes old i _ within within_old l.invariant.made (to_z-of_z w64 c.cast_signed.result fits ∙ c.cast_signed.ensures ∙ next);
      next_is = next ∙ steps_next value delta old i within_old;
      rest = over_rest l.magnitudes old i _ (pos 0) l.invariant.rest;
    }

pub returns : goal.returns
returns c =
    let l = c.loop-magnitude in
    let i = l.magnitude-index in
    let old = c.args.magnitudes.now in
    let value = cast_signed w64 c.args.value in
    let delta = cast_signed w64 c.args.delta in
    ap (λ (list : List ℤ). value ∷ list) (sym (take_all i l.magnitudes (omega (arith, c.loop-magnitude-test.false))))
    ∙ l.invariant.made
    ∙ ap (λ (list : List ℤ). sums value (map (signed_step delta) list)) (take_all i old (omega (arith, c.loop-magnitude-test.false, l.auto.magnitudes)))
    ∙ ap (sums value) (sym (map-map (with_sign delta) (cast_unsigned w64) old))
