use Rattle.std.proofs.Common.{◌<◌, ◌^◌, subst, sym}
use Rattle.std.proofs.lemmas.Simd.{pick_l_whole}
use Rattle.std.specs.List.{AllByRecursion, range_with_len}
use Rattle.std.specs.Simd.Lanes.{pick_l}
use Rattle.orc_integers.specs.Eights.{ArePairs}
use Rattle.orc_integers.proofs.Lanes.{pairs_are, pairs_below}
use Rattle.orc_integers.proofs.eights.pair_numbers.Goals as goal

pub returns-clause-value : goal.returns-clause-value
returns-clause-value c =
    let e = sym (pick_l_whole 0 c.args.pairs.now 16 c.told-pairs) in
    rw e (pairs_are (pick_l 0 c.args.pairs.now (range_with_len 0 16)) (subst ArePairs e c.requires))

pub returns-clause-below : goal.returns-clause-below
returns-clause-below c =
    let e = sym (pick_l_whole 0 c.args.pairs.now 16 c.told-pairs) in
    let is = pairs_are (pick_l 0 c.args.pairs.now (range_with_len 0 16)) (subst ArePairs e c.requires) in
    rw e (subst (AllByRecursion (λ number. number < 2 ^ 14)) (sym is) (pairs_below (pick_l 0 c.args.pairs.now (range_with_len 0 16)) (subst ArePairs e c.requires)))
