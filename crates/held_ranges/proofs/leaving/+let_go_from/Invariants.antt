use Rattle.std.proofs.Common.{◌-◌, length}
use Rattle.held_ranges.proofs.leaving.+let_go_from.Given as goal

abbrev pub decreases-let_go_from : goal.decreases-let_go_from
decreases-let_go_from g l = length l.slots.now.items - l.slot
