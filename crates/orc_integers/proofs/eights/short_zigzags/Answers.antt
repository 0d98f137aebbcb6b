use Rattle.std.proofs.Common.{◌<◌, subst, sym}
use Rattle.std.proofs.lemmas.Simd.{pick_l_whole}
use Rattle.std.specs.List.{AllByRecursion}
use Rattle.orc_integers.proofs.Lanes.{shorts_are}
use Rattle.orc_integers.proofs.eights.short_zigzags.Goals as goal

pub returns : goal.returns
returns c =
    let xs = c.args.eight.now in
    let e = sym (pick_l_whole 0 xs 8 c.told-eight) in
    rw e (shorts_are _ _ _ _ _ _ _ _ (subst (AllByRecursion (λ byte. byte < 128)) e c.requires))
