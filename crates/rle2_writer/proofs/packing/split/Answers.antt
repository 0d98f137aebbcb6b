use Rattle.std.proofs.Common.{arith}
use Rattle.rle2_writer.proofs.PackedBits.{byte_fits}
use Rattle.rle2_writer.proofs.packing.split.Goals as goal

pub overflow_cast-result : goal.overflow_cast-result
overflow_cast-result c = omega (arith, byte_fits c.args.held c.args.bits c.requires.below)
