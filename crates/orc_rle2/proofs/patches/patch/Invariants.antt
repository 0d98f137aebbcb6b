use Rattle.std.proofs.Common.{◌≡◌, ◌*◌, ◌≤◌, drop}
use Rattle.orc_rle2.specs.Integers.{bits_in}
use Rattle.orc_rle2.specs.Patches.{patched}
use Rattle.orc_rle2.proofs.patches.patch.Given as goal

abbrev pub invariant-loop-entry : goal.invariant-loop-entry
invariant-loop-entry l = record {
  near : l.position ≤ 255 * l.entry-index;
  same : patched l.shape 0 (bits_in l.entries) (bits_in l.fn.numbers) ≡ patched l.shape l.position (bits_in (drop l.entry-index l.entries)) (bits_in l.numbers);
}
