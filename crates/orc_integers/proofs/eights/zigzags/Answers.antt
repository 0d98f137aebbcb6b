use Rattle.std.proofs.Common.{◌<◌, ◌^◌, subst, sym}
use Rattle.std.proofs.lemmas.Simd.{pick_l_whole}
use Rattle.std.specs.List.{AllByRecursion}
use Rattle.orc_integers.proofs.Lanes.{wides_are}
use Rattle.orc_integers.proofs.eights.zigzags.Goals as goal

pub returns : goal.returns
returns c =
    let e = sym (pick_l_whole 0 c.args.numbers.now 8 c.told-numbers) in
    rw e (wides_are _ _ _ _ _ _ _ _ (subst (AllByRecursion (λ number. number < 2 ^ 14)) e c.requires))
