use Rattle.std.proofs.Common.{◌≡◌, take}
use Rattle.group_counts.specs.Order.{value_cmp}
use Rattle.group_counts.specs.Tally.{added_all}
use Rattle.group_counts.specs.EntryCounts.{entry_counts}
use Rattle.group_counts.proofs.counts.Counts.add_entries.Given as goal

abbrev pub invariant-loop-entry : goal.invariant-loop-entry
invariant-loop-entry l = l.self ≡ added_all value_cmp l.fn.self (entry_counts (take l.entry l.entries) (take l.entry l.counts))
