use Rattle.std.proofs.Common.{◌≡◌, ◌-◌, ◌<◌, ◌≤◌, [], length, take}
use Rattle.outside.specs.Lending.{FillsIn}
use Rattle.orc_rle2.specs.IntRun2.{IntRun2}
use Rattle.orc_rle2.proofs.run2_in.give_runs_in.Given as goal

abbrev pub invariant-loop-given : goal.invariant-loop-given
invariant-loop-given l = record {
  within : l.given ≤ length l.out;
  empty : l.given < length l.out → l.held ≡ [];
  fills : FillsIn (IntRun2 l.signed) l.bytes (take l.given l.out) l.held l.left;
}

abbrev pub decreases-loop-given : goal.decreases-loop-given
decreases-loop-given l = length l.out - l.given
