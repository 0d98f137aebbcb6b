use Rattle.std.proofs.Common.{take}
use Rattle.rle_writer.specs.Written.{Adds, AreIntegers}
use Rattle.rle_writer.proofs.int_stream1.put_integers.Given as goal

abbrev pub invariant-loop-value : goal.invariant-loop-value
invariant-loop-value l = Adds (AreIntegers l.signed) l.initial.out.items l.out.items (take l.value-index l.values)
