use Rattle.std.proofs.Common.{List, ℕ, []}
use Rattle.std.proofs.lemmas.Option.{get_or_from_slice_get}
use Rattle.group_counts.proofs.ByEntry.{entries-next}
use Rattle.group_counts.proofs.counts.Counts.add_entries.Goals as goal

pub loop-entry-preserved : goal.loop-entry-preserved
loop-entry-preserved c =
    let l = c.loop-entry in
    let none : List ℕ = [] in
    let texts = c.args.entries.now in
    entries-next c.args.self.now l.self c.add_counted.new.self texts c.args.counts.now l.entry c.get.result.now c.requires c.loop-entry-test.true
    (get_or_from_slice_get texts l.entry c.get.result.now none c.get.ensures) l.invariant c.in_ok-add_counted.ensures
