use Rattle.std.proofs.Common.{◌≡◌, take}
use Rattle.group_counts.specs.Order.{value_cmp}
use Rattle.group_counts.specs.Tally.{added_all}
use Rattle.group_counts.specs.Slots.{slot_entries}
use Rattle.group_counts.proofs.counts.Counts.add_slots.Given as goal

abbrev pub invariant-loop-slot : goal.invariant-loop-slot
invariant-loop-slot l = l.self ≡ added_all value_cmp l.fn.self (slot_entries (take l.slot-index l.slots))
