use Rattle.std.proofs.Common.{◌∙◌, ap, sym, arith, ℤ}
use Rattle.std.specs.Int.{cast_signed, w64}
use Rattle.orc_integers.specs.Integers.{wrapped_sum}
use Rattle.orc_rle2.proofs.WrappedSums.{sum_bits, difference_bits, with_sign-positive, with_sign-negative}
use Rattle.orc_rle2.proofs.sums.stepped.Goals as goal

pub returns-then-delta : goal.returns-then-delta
returns-then-delta c =
    let a = c.args in
    sum_bits a.value a.magnitude (omega arith) (omega arith)
    ∙ ap (λ (z : ℤ). wrapped_sum (cast_signed w64 a.value) z) (sym (with_sign-positive a.delta a.magnitude (omega (arith, c.if-delta.true))))

pub returns-else-delta : goal.returns-else-delta
returns-else-delta c =
    let a = c.args in
    difference_bits a.value a.magnitude (omega arith) (omega arith)
    ∙ ap (λ (z : ℤ). wrapped_sum (cast_signed w64 a.value) z) (sym (with_sign-negative a.delta a.magnitude (omega (arith, c.if-delta.false))))
