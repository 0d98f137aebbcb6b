use Rattle.std.proofs.Common.{◌≡◌, ◌+◌, ◌++◌, take, drop, map, sum, unsigned_abs}
use Rattle.orc_values.specs.Texts.{running_ends}
use Rattle.orc_values.proofs.rows.lay_ends.Given as goal

abbrev pub invariant-loop-text : goal.invariant-loop-text
invariant-loop-text l = record {
  end_is : l.end + sum (map unsigned_abs (drop l.text l.lengths)) ≡ sum (map unsigned_abs l.lengths);
  made : take l.text l.ends ++ running_ends l.end (map unsigned_abs (drop l.text l.lengths)) ≡ running_ends 0 (map unsigned_abs l.lengths);
}
