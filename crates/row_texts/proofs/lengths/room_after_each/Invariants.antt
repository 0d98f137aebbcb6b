use Rattle.std.proofs.Common.{◌≡◌, ◌+◌, map, sum, take, unsigned_abs}
use Rattle.row_texts.proofs.lengths.room_after_each.Given as goal

abbrev pub invariant-loop-length : goal.invariant-loop-length
invariant-loop-length l = l.left + sum (map unsigned_abs (take l.length-index l.lengths)) ≡ l.room
