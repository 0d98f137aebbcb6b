use Rattle.std.proofs.Common.{◌≡◌, ◌+◌, ◌≤◌, length}
use Rattle.orc_values.specs.Woven.{present_count}
use Rattle.orc_values.proofs.rows.count_present.Given as goal

abbrev pub invariant-loop-flags : goal.invariant-loop-flags
invariant-loop-flags l = record {
  few : l.count + length l.left ≤ length l.present;
  counted : l.count + present_count l.left ≡ present_count l.present;
}

abbrev pub decreases-loop-flags : goal.decreases-loop-flags
decreases-loop-flags l = length l.left
