use Rattle.std.proofs.Common.{◌+◌, ◌-◌, length}
use Rattle.lrfu_policy.proofs.tree.+least_above.Given as goal

abbrev pub decreases-least_above : goal.decreases-least_above
decreases-least_above l = length l.entries.now + length l.entries.now - l.node
