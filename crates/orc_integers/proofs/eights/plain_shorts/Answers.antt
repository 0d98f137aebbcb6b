use Rattle.std.proofs.Common.{refl, sym}
use Rattle.std.proofs.lemmas.Simd.{pick_l_whole}
use Rattle.orc_integers.proofs.eights.plain_shorts.Goals as goal

pub returns : goal.returns
returns c =
    let e = sym (pick_l_whole 0 c.args.eight.now 8 c.told-eight) in
    rw e refl
