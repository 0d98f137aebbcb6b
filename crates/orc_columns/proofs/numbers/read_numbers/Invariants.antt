use Rattle.std.proofs.Common.{◌≡◌, ◌≤◌, ◌*◌, ◌^◌, ◌-◌, None, Ok}
use Rattle.orc_columns.specs.Numbers.{ReadsNumbers}
use Rattle.orc_columns.specs.Spelling.{IntRun, int_run}
use Rattle.orc_columns.proofs.numbers.read_numbers.Given as goal

abbrev pub invariant-loop-given : goal.invariant-loop-given
invariant-loop-given g l = record {
  within : l.given ≤ l.count;
  stream : l.integers.stream ≡ l.fn.integers.stream;
  version : l.integers.version ≡ l.fn.integers.version;
  signed : l.integers.signed ≡ l.fn.integers.signed;
  whole : l.integers.fault ≡ None;
  high : l.summary.total ≤ l.given * 2 ^ 64;
  top : l.summary.bound ≤ 2 ^ 64;
  reads : ReadsNumbers g.F.Feed.rest g.F.Feed.fed g.F.Feed.fault_count (IntRun l.fn.integers.version l.fn.integers.signed) (int_run l.fn.integers.version l.fn.integers.signed)
      l.fn.integers.stream l.fn.feed l.feed l.fn.integers.held l.integers.held l.given (Ok l.summary);
}

abbrev pub decreases-loop-given : goal.decreases-loop-given
decreases-loop-given g l = l.count - l.given
