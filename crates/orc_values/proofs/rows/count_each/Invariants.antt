use Rattle.std.proofs.Common.{◌≡◌, ◌≤◌, take}
use Rattle.orc_values.specs.Woven.{present_count}
use Rattle.orc_values.proofs.rows.count_each.Given as goal

abbrev pub invariant-loop-flag : goal.invariant-loop-flag
invariant-loop-flag l = record {
  few : l.count ≤ l.flag-index;
  counted : l.count ≡ present_count (take l.flag-index l.flags);
}
