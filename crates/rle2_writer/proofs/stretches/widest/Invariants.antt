use Rattle.std.proofs.Common.{◌<◌, length}
use Rattle.rle2_writer.proofs.stretches.widest.Given as goal

abbrev pub invariant-loop-i : goal.invariant-loop-i
invariant-loop-i l = 0 < length l.values → l.place < length l.values
