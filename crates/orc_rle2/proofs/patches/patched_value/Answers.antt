use Rattle.std.proofs.Common.{◌<◌, arith}
use Rattle.orc_rle2.proofs.Masks.{patch_above}
use Rattle.orc_rle2.proofs.patches.patched_value.Goals as goal

pub returns : goal.returns
returns c =
    let h : c.args.width < 64 = omega (arith, c.if-width-eq64.false) in
    patch_above c.args.width c.args.patch c.args.value h
