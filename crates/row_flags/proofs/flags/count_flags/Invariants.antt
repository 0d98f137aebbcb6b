use Rattle.std.proofs.Common.{◌≡◌, ◌≤◌, ◌-◌, None, Ok}
use Rattle.row_flags.specs.Flags.{ReadsFlags}
use Rattle.row_flags.proofs.flags.count_flags.Given as goal

abbrev pub invariant-loop-given : goal.invariant-loop-given
invariant-loop-given g l = record {
  within : l.given ≤ l.rows;
  few : l.set ≤ l.given;
  stream : l.present.stream ≡ l.fn.present.stream;
  whole : l.present.fault ≡ None;
  reads : ReadsFlags g.F.Feed.rest g.F.Feed.fed g.F.Feed.fault_count l.fn.present l.present l.fn.feed l.feed l.given (Ok l.set);
}

abbrev pub decreases-loop-given : goal.decreases-loop-given
decreases-loop-given g l = l.rows - l.given
