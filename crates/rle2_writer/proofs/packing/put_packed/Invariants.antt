use Rattle.std.proofs.Common.{take, ◌*◌}
use Rattle.rle2_writer.specs.Packs.{packed_after, AddsBits}
use Rattle.rle2_writer.proofs.packing.put_packed.Given as goal

abbrev pub invariant-loop-number : goal.invariant-loop-number
invariant-loop-number l = AddsBits l.initial.out.items l.out.items (packed_after l.width 0 (take l.number-index l.numbers)) (l.width * l.number-index) l.held l.bits
