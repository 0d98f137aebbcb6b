use Rattle.std.proofs.Common.{◌≡◌, ◌*◌, length, take}
use Rattle.orc_rle.specs.BitRun.{bits_of}
use Rattle.orc_rle.proofs.byte_bits.unpack_each.Given as goal

abbrev pub invariant-loop-place : goal.invariant-loop-place
invariant-loop-place l = record {
  room : length l.out ≡ 8 * length l.bytes;
  written : take (8 * l.place) l.out ≡ bits_of (take l.place l.bytes);
}
