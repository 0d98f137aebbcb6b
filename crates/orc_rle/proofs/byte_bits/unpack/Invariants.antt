use Rattle.std.proofs.Common.{◌≡◌, ◌+◌, ◌*◌, ◌++◌, length, take}
use Rattle.orc_rle.specs.BitRun.{bits_of}
use Rattle.orc_rle.proofs.byte_bits.unpack.Given as goal

abbrev pub invariant-loop-eight : goal.invariant-loop-eight
invariant-loop-eight l = record {
  room : length l.out ≡ 8 * length l.bytes;
  rest : l.done + length l.left ≡ length l.bytes;
  bits : take (8 * l.done) l.out ++ bits_of l.left ≡ bits_of l.bytes;
}

abbrev pub decreases-loop-eight : goal.decreases-loop-eight
decreases-loop-eight l = length l.left
