use Rattle.std.proofs.Common.{◌+◌, ◌*◌, ◌<◌, length, Option, None, sym, ◌∙◌, subst, arith}
use Rattle.lrfu_policy.specs.declared.rank.Rank.{Rank}
use Rattle.lrfu_policy.specs.Victim.{IsLeast}
use Rattle.lrfu_policy.specs.Tournament.{Under}
use Rattle.lrfu_policy.proofs.OrderLemmas.{joined}
use Rattle.lrfu_policy.proofs.TreeLemmas.{winner, none_above, some_above, leaf_above, split_under, from_left, from_right}
use Rattle.lrfu_policy.proofs.tree.+least_above.Goals as goal

pub returns-in-None : goal.returns-in-None
returns-in-None t c =
    let n = length c.args.entries.now in
    let w = winner c.args.entries.now c.args.winners.now c.args.node n c.requires.same c.requires.root c.requires.within c.requires.tree in
    none_above (Under n c.args.node) c.args.entries.now c.args.after
    (subst (λ (x : Option Rank). IsLeast (Under (length c.args.entries.now) c.args.node) c.args.entries.now None x) (sym c.node_rank.ensures ∙ c.in-None.is) w)

pub returns-then-above : goal.returns-then-above
returns-then-above t c =
    let n = length c.args.entries.now in
    let w = winner c.args.entries.now c.args.winners.now c.args.node n c.requires.same c.requires.root c.requires.within c.requires.tree in
    some_above (Under n c.args.node) c.args.entries.now c.args.after c.in-Some.rank
    (subst (λ (x : Option Rank). IsLeast (Under (length c.args.entries.now) c.args.node) c.args.entries.now None x) (sym c.node_rank.ensures ∙ c.in-Some.is) w)
    (sym c.above.ensures ∙ c.if-above.true)

pub returns-then-node-winners : goal.returns-then-node-winners
returns-then-node-winners t c =
    let n = length c.args.entries.now in
    let p = c.args.node in
    let inner : p < n = omega (arith, c.requires.same, c.if-node-winners.true) in
    subst (λ (x : Option Rank). IsLeast (Under (length c.args.entries.now) c.args.node) c.args.entries.now c.args.after x) (sym c.lesser.ensures)
    (joined (Under n (2 * p)) (Under n (2 * p + 1)) (Under n p) c.args.entries.now c.args.after (λ h. split_under n p h inner) (from_left n p) (from_right n p)
    c.least_above-left.result c.least_above-right.result c.least_above-left.ensures c.least_above-right.ensures)

pub returns-else-node-winners : goal.returns-else-node-winners
returns-else-node-winners t c =
    let n = length c.args.entries.now in
    let w = winner c.args.entries.now c.args.winners.now c.args.node n c.requires.same c.requires.root c.requires.within c.requires.tree in
    leaf_above n c.args.node c.args.entries.now c.args.after c.in-Some.rank (omega (arith, c.requires.same, c.if-node-winners.false))
    (subst (λ (x : Option Rank). IsLeast (Under (length c.args.entries.now) c.args.node) c.args.entries.now None x) (sym c.node_rank.ensures ∙ c.in-Some.is) w)
    (sym c.above.ensures ∙ c.if-above.false)
