use Rattle.std.proofs.Common.{◌/◌, ◌^◌, arith}
use Rattle.orc_rle2.proofs.Masks.{masked}
use Rattle.orc_rle2.proofs.patches.Shape.gap.Goals as goal

pub returns-clause-value : goal.returns-clause-value
returns-clause-value c = masked (c.args.entry / 2 ^ c.args.self.patches) c.args.self.gaps 64 (omega (arith, c.requires.gaps))
