use Rattle.std.proofs.Common.{◌≡◌, take}
use Rattle.orc_rle2.specs.IntRun2.{above_base}
use Rattle.rle2_writer.proofs.base.write_above.Given as goal

abbrev pub invariant-loop-i : goal.invariant-loop-i
invariant-loop-i l = above_base l.base (take l.i l.into) ≡ take l.i l.values
