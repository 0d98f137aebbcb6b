use Rattle.std.proofs.Common.{◌≡◌, ◌+◌, drop, map, sum, unsigned_abs}
use Rattle.row_texts.proofs.lengths.total_of.Given as goal

abbrev pub invariant-loop-length : goal.invariant-loop-length
invariant-loop-length l = l.total + sum (map unsigned_abs (drop l.length-index l.lengths)) ≡ sum (map unsigned_abs l.lengths)
