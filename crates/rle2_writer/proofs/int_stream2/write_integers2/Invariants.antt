use Rattle.std.proofs.Common.{◌-◌, ◌≤◌, length, take}
use Rattle.orc_rle2.specs.IntRun2.{IntRun2}
use Rattle.rle_writer.specs.Written.{Written}
use Rattle.rle2_writer.proofs.int_stream2.write_integers2.Given as goal

abbrev pub invariant-loop-at : goal.invariant-loop-at
invariant-loop-at l = record {
  within : l.at ≤ length l.values;
  written : Written (IntRun2 l.signed) l.stream.items (take l.at l.values);
}

abbrev pub decreases-loop-at : goal.decreases-loop-at
decreases-loop-at l = length l.values - l.at
