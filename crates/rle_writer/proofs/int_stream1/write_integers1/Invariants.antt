use Rattle.std.proofs.Common.{◌-◌, ◌≤◌, length, take}
use Rattle.orc_rle.specs.IntRun1.{IntRun1}
use Rattle.rle_writer.specs.Written.{Written}
use Rattle.rle_writer.proofs.int_stream1.write_integers1.Given as goal

abbrev pub invariant-loop-at : goal.invariant-loop-at
invariant-loop-at l = record {
  within : l.at ≤ length l.values;
  written : Written (IntRun1 l.signed) l.stream.items (take l.at l.values);
}

abbrev pub decreases-loop-at : goal.decreases-loop-at
decreases-loop-at l = length l.values - l.at
