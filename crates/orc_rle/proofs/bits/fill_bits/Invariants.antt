use Rattle.std.proofs.Common.{◌≡◌, ◌-◌, ◌<◌, ◌≤◌, [], length, take, Ok}
use Rattle.outside.specs.Filling.{Fills}
use Rattle.orc_rle.specs.BitRun.{BitRun, bit_run}
use Rattle.orc_rle.proofs.bits.fill_bits.Given as goal

abbrev pub invariant-loop-given : goal.invariant-loop-given
invariant-loop-given g l = record {
  within : l.given ≤ length l.out;
  empty : l.given < length l.out → l.held ≡ [];
  fills : Fills g.F.Feed.rest g.F.Feed.fed g.F.Feed.fault_count BitRun bit_run l.stream l.fn.feed l.feed l.fn.held l.held (length l.fn.out) (Ok (take l.given l.out));
}

abbrev pub decreases-loop-given : goal.decreases-loop-given
decreases-loop-given g l = length l.out - l.given
