use Rattle.std.proofs.Common.{◌+◌, Option, sym, ap, ◌∙◌, subst}
use Rattle.lrfu_policy.specs.declared.rank.Rank.{Rank}
use Rattle.lrfu_policy.specs.Victim.{IsLeast, Among}
use Rattle.lrfu_policy.specs.Rank.{lesser_of}
use Rattle.lrfu_policy.proofs.OrderLemmas.{one_more}
use Rattle.lrfu_policy.proofs.tree.least_among.Goals as goal

pub loop-passed-preserved : goal.loop-passed-preserved
loop-passed-preserved c =
    let before = c.loop-passed in
    let next = Among c.args.first (before.passed + 1) in
    let is = c.lesser-least.ensures ∙ ap (lesser_of before.least) c.only_above.ensures in
    subst (λ (x : Option Rank). IsLeast next c.args.entries.now c.args.after x) (sym is)
    (one_more c.args.entries.now c.args.first before.passed c.args.after before.least c.rank_of-rank.result before.invariant (sym c.rank_of-rank.ensures))
