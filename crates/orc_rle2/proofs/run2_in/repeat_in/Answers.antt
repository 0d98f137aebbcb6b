use Rattle.std.proofs.Common.{◌≡◌, ◌≤◌, length, take, replicate, arith}
use Rattle.std.proofs.lemmas.List.{take_rest}
use Rattle.orc_integers.specs.Integers.{integer}
use Rattle.orc_rle2.specs.Packed.{number_of}
use Rattle.orc_rle2.proofs.RunsIn.{repeat-read}
use Rattle.orc_rle2.proofs.run2_in.repeat_in.Goals as goal

pub returns : goal.returns
returns c =
    let a = c.args in
    let bytes = a.bytes.now in
    let fits : a.len ≤ length bytes = omega (arith, c.if-bytes-len.false) in
    let is : c.write_copies.new.into ≡ replicate (length a.into.now) (integer a.signed (number_of (take a.len bytes))) = rw (c.bits_of.ensures, c.number_in.ensures.value) at c.write_copies.ensures in
    rw (take_rest, is) (repeat-read a.signed a.len (length a.into.now) bytes fits)
