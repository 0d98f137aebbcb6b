use Rattle.std.proofs.Common.{◌≡◌, ◌+◌, ◌++◌, drop, map, sum, unsigned_abs}
use Rattle.orc_values.specs.Texts.{running_ends}
use Rattle.row_texts.proofs.lengths.ends_of.Given as goal

abbrev pub invariant-loop-length : goal.invariant-loop-length
invariant-loop-length l = record {
  end_is : l.end + sum (map unsigned_abs (drop l.length-index l.lengths)) ≡ sum (map unsigned_abs l.lengths);
  made : l.ends.items ++ running_ends l.end (map unsigned_abs (drop l.length-index l.lengths)) ≡ running_ends 0 (map unsigned_abs l.lengths);
}
