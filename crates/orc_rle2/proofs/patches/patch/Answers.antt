use Rattle.std.proofs.Common.{◌≡◌, ◌∙◌, ℕ, ◌+◌, ◌<◌, false, length, get_or, ap, sym, arith, FitsSigned, pos}
use Rattle.std.specs.Int.{cast_signed, cast_unsigned, w64}
use Rattle.std.proofs.lemmas.Int.{to_z-of_z, of_z-to_z, ints}
use Rattle.orc_rle2.specs.Patches.{patch_of, only_moves, patched_value}
use Rattle.orc_rle2.proofs.InPlace.{patched-sets}
use Rattle.orc_rle2.proofs.patches.patch.Goals as goal

pub loop-entry-preserved : goal.loop-entry-preserved
loop-entry-preserved c =
    let l = c.loop-entry in
    let a = c.args in
    let i = l.entry-index in
    let entries = a.entries.now in
    let entry = c.cast_unsigned-entry.result in
    let at = l.position + c.gap.result in
    let within : i < length entries = omega (arith, c.loop-entry-test.true) in
    let room : at < length l.numbers = omega (arith, c.if-position-numbers.false) in
    let fits_entry : FitsSigned w64 (get_or entries i (pos 0)) = search (arith, ints) in
    let entry_is : entry ≡ cast_unsigned w64 (get_or entries i (pos 0)) = c.cast_unsigned-entry.ensures ∙ ap (cast_unsigned w64) (to_z-of_z w64 (get_or entries i (pos 0)) fits_entry) in
    let fits_number : FitsSigned w64 (get_or l.numbers at (pos 0)) = search (arith, ints) in
    let number_is : c.cast_unsigned-number.result ≡ cast_unsigned w64 (get_or l.numbers at (pos 0)) = c.cast_unsigned-number.ensures ∙ ap (cast_unsigned w64) (to_z-of_z w64 (get_or l.numbers at (pos 0)) fits_number) in
    let fits : FitsSigned w64 c.cast_signed.result = search (arith, ints) in
    let value_is : cast_unsigned w64 (cast_signed w64 (cast_unsigned w64 c.cast_signed.result)) ≡ patched_value a.shape.values (patch_of a.shape entry) c.cast_unsigned-number.result =
    ap (cast_unsigned w64) (to_z-of_z w64 c.cast_signed.result fits ∙ c.cast_signed.ensures)
    ∙ of_z-to_z w64 c.patched_value.result (omega arith)
    ∙ c.patched_value.ensures
    ∙ ap (λ (n : ℕ). patched_value a.shape.values n c.cast_unsigned-number.result) c.patch.ensures in
    let stays : only_moves a.shape entry ≡ false = sym c.only_moves.ensures ∙ c.if-only_moves.false in
    record {
      near = omega (arith, l.invariant.near, c.gap.ensures.small);
      same = l.invariant.same ∙ patched-sets a.shape l.position at entry c.cast_unsigned-number.result entries l.numbers i _ within room entry_is (ap (λ (n : ℕ). l.position + n) c.gap.ensures.value) stays number_is value_is;
    }
