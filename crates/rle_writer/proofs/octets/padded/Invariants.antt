use Rattle.std.proofs.Common.{◌≡◌, length, take}
use Rattle.rle_writer.proofs.octets.padded.Given as goal

abbrev pub invariant-loop-i : goal.invariant-loop-i
invariant-loop-i l = record {
  eight : length l.eight ≡ 8;
  written : take l.i l.eight ≡ take l.i l.flags;
}
