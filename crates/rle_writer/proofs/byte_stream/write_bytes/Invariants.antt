use Rattle.std.proofs.Common.{◌-◌, ◌≤◌, length, take}
use Rattle.orc_rle.specs.ByteRun.{ByteRun}
use Rattle.rle_writer.specs.Written.{Written}
use Rattle.rle_writer.proofs.byte_stream.write_bytes.Given as goal

abbrev pub invariant-loop-at : goal.invariant-loop-at
invariant-loop-at l = record {
  within : l.at ≤ length l.bytes;
  written : Written ByteRun l.stream.items (take l.at l.bytes);
}

abbrev pub decreases-loop-at : goal.decreases-loop-at
decreases-loop-at l = length l.bytes - l.at
