use Rattle.std.proofs.Common.{length, Some, sym, ap, ◌∙◌, arith}
use Rattle.std.proofs.lemmas.List.{length-set}
use Rattle.lrfu_policy.proofs.TreeLemmas.{tournament_back}
use Rattle.lrfu_policy.proofs.policy.Policy.sync.Goals as goal

pub invariant_of-self : goal.invariant_of-self
invariant_of-self c =
    let inside = c.self.inside in
    let same = ap length c.put.ensures.entries ∙ length-set c.deref_mut.result.now c.args.header (Some c.synced_entry-entry.result) in
    let kept = same ∙ ap length c.deref_mut.ensures.value in
    let winners = c.put.ensures.len ∙ ap length c.deref_mut-2.ensures.value in
    tournament_back inside.entries.len inside.winners.len c.put.new.entries inside.entries.items c.put.new.winners inside.winners.items
    (same ∙ c.deref_mut.ensures.len) (c.put.ensures.len ∙ c.deref_mut-2.ensures.len)
    (winners ∙ c.self.invariant.0 ∙ sym kept, (omega (arith, kept, c.self.invariant.1.0), c.put.ensures.tree))
