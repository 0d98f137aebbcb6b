use Rattle.std.proofs.Common.{◌≡◌, ◌≤◌, ◌-◌, None, Ok}
use Rattle.row_flags.specs.Flags.{ReadsBits}
use Rattle.row_flags.proofs.flags.skip_bits.Given as goal

abbrev pub invariant-loop-given : goal.invariant-loop-given
invariant-loop-given g l = record {
  within : l.given ≤ l.count;
  stream : l.bits.stream ≡ l.fn.bits.stream;
  whole : l.bits.fault ≡ None;
  reads : ReadsBits g.F.Feed.rest g.F.Feed.fed g.F.Feed.fault_count l.fn.bits.stream l.fn.feed l.feed l.fn.bits.held l.bits.held l.given {T = Unit {0}} (Ok tt);
}

abbrev pub decreases-loop-given : goal.decreases-loop-given
decreases-loop-given g l = l.count - l.given
