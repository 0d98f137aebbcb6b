use Rattle.orc_rle2.proofs.Masks.{masked}
use Rattle.orc_rle2.proofs.patches.Shape.patch.Goals as goal

pub returns : goal.returns
returns c = masked c.args.entry c.args.self.patches 64 c.requires
