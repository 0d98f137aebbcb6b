use Rattle.std.proofs.Common.{◌≡◌, length, arith}
use Rattle.orc_integers.specs.Integers.{integer, zigzag, ramp}
use Rattle.orc_rle2.proofs.RunsIn.{ramp-read}
use Rattle.orc_rle2.proofs.run2_in.ramp_in.Goals as goal

pub returns : goal.returns
returns c =
    let a = c.args in
    let start = c.in_ok-start.start in
    let step = c.in_ok-step.step in
    let none : a.code ≡ 0 = omega (arith, c.if-code-ne0.false) in
    let is : c.write_ramp.new.into ≡ ramp (integer a.signed start) (zigzag step) (length a.into.now) = rw (c.bits_of.ensures, c.bits_of-2.ensures) at c.write_ramp.ensures in
    rw is (ramp-read a.signed a.code (length a.into.now) start step none c.in_ok-start.ensures c.in_ok-step.ensures)
