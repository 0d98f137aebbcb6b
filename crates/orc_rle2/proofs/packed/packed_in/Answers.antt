use Rattle.std.proofs.Common.{◌≡◌, ◌≤◌, ℕ, length, arith}
use Rattle.std.proofs.lemmas.List.{take_rest}
use Rattle.orc_rle2.specs.Packed.{packed_len}
use Rattle.orc_rle2.proofs.Numbers.{Bytes}
use Rattle.orc_rle2.proofs.RunsIn.{packed-read}
use Rattle.orc_rle2.proofs.packed.packed_in.Goals as goal

pub returns : goal.returns
returns c =
    let a = c.args in
    let bytes = a.bytes.now in
    let are : Bytes bytes = λ (k : ℕ). omega (arith, c.type_inv.bytes k) in
    let len : c.div_ceil-len.result ≡ packed_len a.width (length a.into.now) = omega (arith, c.div_ceil-len.ensures) in
    let fits : packed_len a.width (length a.into.now) ≤ length bytes = omega (arith, len, c.if-bytes-len.false) in
    rw (take_rest, len, c.unpack_by_width.ensures) (packed-read a.signed a.width (length a.into.now) bytes are fits)
