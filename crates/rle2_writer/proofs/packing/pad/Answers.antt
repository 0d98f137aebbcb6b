use Rattle.rle2_writer.proofs.PackedBits.{pad_is}
use Rattle.rle2_writer.proofs.packing.pad.Goals as goal

pub returns : goal.returns
returns c = pad_is c.args.held c.args.bits c.requires.most c.requires.below
