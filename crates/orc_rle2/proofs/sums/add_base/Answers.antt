use Rattle.std.proofs.Common.{◌≡◌, ◌∙◌, ℕ, ◌<◌, length, get_or, map, ap, sym, arith, FitsSigned, pos}
use Rattle.std.specs.Int.{cast_signed, cast_unsigned, w64}
use Rattle.std.proofs.lemmas.Int.{to_z-of_z, ints}
use Rattle.std.proofs.lemmas.List.{take_all}
use Rattle.std.proofs.lemmas.Simd.{map-map}
use Rattle.orc_integers.specs.Integers.{wrapped_sum}
use Rattle.orc_rle2.proofs.InPlace.{over_more, over_rest}
use Rattle.orc_rle2.proofs.WrappedSums.{above, sum_bits}
use Rattle.orc_rle2.proofs.sums.add_base.Goals as goal

pub loop-number-preserved : goal.loop-number-preserved
loop-number-preserved c =
    let l = c.loop-number in
    let i = l.number-index in
    let old = c.args.numbers.now in
    let base = cast_signed w64 c.args.base in
    let within : i < length l.numbers = omega (arith, c.loop-number-test.true) in
    let within_old : i < length old = omega (arith, l.auto.numbers) in
    let fits_now : FitsSigned w64 (get_or l.numbers i (pos 0)) = search (arith, ints) in
    let number : c.cast_unsigned.result ≡ cast_unsigned w64 (get_or old i (pos 0)) = c.cast_unsigned.ensures ∙ ap (cast_unsigned w64) (to_z-of_z w64 (get_or l.numbers i (pos 0)) fits_now ∙ l.invariant.rest i (omega arith)) in
    let fits : FitsSigned w64 c.cast_signed.result = search (arith, ints) in
    let value : _ ≡ above base (get_or old i (pos 0)) =
    to_z-of_z w64 c.cast_signed.result fits ∙ c.cast_signed.ensures ∙ sum_bits c.args.base c.cast_unsigned.result (omega arith) (omega arith) ∙ ap (λ (n : ℕ). wrapped_sum base (pos n)) number in
    record {
      made = over_more (above base) l.numbers old i _ (pos 0) within within_old l.invariant.made value;
      rest = over_rest l.numbers old i _ (pos 0) l.invariant.rest;
    }

pub returns : goal.returns
returns c =
    let l = c.loop-number in
    let i = l.number-index in
    let old = c.args.numbers.now in
    let base = cast_signed w64 c.args.base in
    sym (take_all i l.numbers (omega (arith, c.loop-number-test.false)))
    ∙ l.invariant.made
    ∙ ap (map (above base)) (take_all i old (omega (arith, c.loop-number-test.false, l.auto.numbers)))
    ∙ sym (map-map (λ (n : ℕ). wrapped_sum base (pos n)) (cast_unsigned w64) old)
