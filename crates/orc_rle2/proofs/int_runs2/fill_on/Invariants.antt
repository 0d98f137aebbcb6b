use Rattle.std.proofs.Common.{◌≡◌, ◌-◌, ◌<◌, ◌≤◌, [], length, take, Ok}
use Rattle.outside.specs.Filling.{Fills}
use Rattle.orc_rle2.specs.IntRun2.{IntRun2, int_run2}
use Rattle.orc_rle2.proofs.int_runs2.fill_on.Given as goal

abbrev pub invariant-loop-given : goal.invariant-loop-given
invariant-loop-given g l = record {
  within : l.given ≤ length l.out;
  empty : l.given < length l.out → l.held ≡ [];
  fills : Fills g.F.Feed.rest g.F.Feed.fed g.F.Feed.fault_count (IntRun2 l.signed) (int_run2 l.signed) l.stream l.fn.feed l.feed l.fn.held l.held (length l.fn.out) (Ok (take l.given l.out));
}

abbrev pub decreases-loop-given : goal.decreases-loop-given
decreases-loop-given g l = length l.out - l.given
