use Rattle.std.proofs.Common.{◌∙◌, ℕ, arith}
use Rattle.orc_rle2.proofs.Groups.{bits_in_group}
use Rattle.orc_rle2.proofs.Numbers.{Bytes}
use Rattle.orc_rle2.proofs.packed.value_in.Goals as goal

pub returns : goal.returns
returns c =
    let a = c.args in
    let are : Bytes a.bytes.now = λ (k : ℕ). omega (arith, c.type_inv.bytes k) in
    let read = rw (c.split_at-2.ensures.front, c.split_at.ensures.back) at c.value_at.ensures in
    read ∙ bits_in_group a.bytes.now a.width a.group a.place are c.requires.room c.requires.within
