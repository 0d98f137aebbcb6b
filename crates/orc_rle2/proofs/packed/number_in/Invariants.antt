use Rattle.std.proofs.Common.{◌≡◌, ◌*◌, ◌^◌, ◌<◌, take}
use Rattle.orc_rle2.specs.Packed.{number_of}
use Rattle.orc_rle2.proofs.packed.number_in.Given as goal

abbrev pub invariant-loop-byte : goal.invariant-loop-byte
invariant-loop-byte l = record {
  made : l.number ≡ number_of (take l.byte-index l.bytes);
  below : l.number < 2 ^ (8 * l.byte-index);
}
