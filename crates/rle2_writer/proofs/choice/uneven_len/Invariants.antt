use Rattle.std.proofs.Common.{◌-◌, ◌<◌, ◌≤◌, length}
use Rattle.rle2_writer.proofs.choice.uneven_len.Given as goal

abbrev pub invariant-loop-len : goal.invariant-loop-len
invariant-loop-len l = record {
  some : 0 < l.len;
  within : l.len ≤ length l.values;
  most : l.len ≤ 512;
}

abbrev pub decreases-loop-len : goal.decreases-loop-len
decreases-loop-len l = length l.values - l.len
