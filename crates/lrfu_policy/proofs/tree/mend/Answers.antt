use Rattle.std.proofs.Common.{◌∙◌, ap, arith}
use Rattle.std.proofs.lemmas.List.{length-set}
use Rattle.lrfu_policy.specs.Rank.{lesser_of}
use Rattle.lrfu_policy.proofs.TreeLemmas.{mended, unchanged}
use Rattle.lrfu_policy.proofs.tree.mend.Goals as goal

pub loop-node-preserved : goal.loop-node-preserved
loop-node-preserved c =
    let kept = c.loop-node.invariant in
    let some = c.loop-node-test.true in
    let inner = kept.inside some in
    let is = c.lesser-winner.ensures ∙ ap (λ x. lesser_of x c.node_rank-right.result) c.node_rank-left.ensures ∙ ap (lesser_of _) c.node_rank-right.ensures in
    record {
      len = length-set c.loop-node.winners c.loop-node.node c.lesser-winner.result ∙ kept.len;
      within = omega (arith, kept.within);
      inside = λ _. omega (arith, inner);
      tree = mended c.args.entries.now c.loop-node.winners c.loop-node.node c.lesser-winner.result some (omega (arith, inner, kept.len)) kept.tree is;
    }

pub returns-then-is_same-clause-tree : goal.returns-then-is_same-clause-tree
returns-then-is_same-clause-tree c =
    let is = c.lesser-winner.ensures ∙ ap (λ x. lesser_of x c.node_rank-right.result) c.node_rank-left.ensures ∙ ap (lesser_of _) c.node_rank-right.ensures in
    unchanged c.args.entries.now c.loop-node.winners c.loop-node.node c.loop-node.invariant.tree (c.is_same.ensures.0 c.if-is_same.true ∙ is)
