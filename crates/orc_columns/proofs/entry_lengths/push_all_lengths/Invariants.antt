use Rattle.std.proofs.Common.{◌≡◌, ◌+◌, length, None, Ok}
use Rattle.orc_columns.specs.declared.plan.ColumnPlan.{ColumnPlan}
use Rattle.orc_columns.specs.Batches.{LengthsGoOn, LengthsBreak}
use Rattle.orc_columns.specs.Draws.{StreamsDiffer, Draws}
use Rattle.orc_columns.specs.Turns.{alone}
use Rattle.orc_columns.proofs.entry_lengths.push_all_lengths.Given as goal

abbrev pub invariant-loop-open : goal.invariant-loop-open
invariant-loop-open g l = record {
  asked : l.open + length l.into.items ≡ l.count;
  stream : l.integers.stream ≡ l.initial.integers.stream;
  version : l.integers.version ≡ l.initial.integers.version;
  signed : l.integers.signed ≡ l.initial.integers.signed;
  whole : l.initial.integers.fault ≡ None → l.integers.fault ≡ None;
  draws : (plan : ColumnPlan) → StreamsDiffer plan → l.initial.integers.stream ≡ plan.length → l.initial.integers.fault ≡ None →
      Draws g.F.Feed.rest g.F.Feed.fed g.F.Feed.fault_count plan (alone plan.length) l.initial.feed l.feed (LengthsGoOn l.initial.integers l.integers) (LengthsBreak l.initial.integers (length l.into.items)) (Ok l.into.items);
}

abbrev pub decreases-loop-open : goal.decreases-loop-open
decreases-loop-open g l = l.open
