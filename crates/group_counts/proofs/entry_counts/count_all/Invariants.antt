use Rattle.std.proofs.Common.{◌≡◌, ◌≤◌, ℕ, List, length, drop, All}
use Rattle.group_counts.specs.Order.{value_cmp}
use Rattle.group_counts.specs.Tally.{added_all}
use Rattle.group_counts.specs.Entries.{Entries}
use Rattle.group_counts.specs.EntryCounts.{entry_counts, flagged}
use Rattle.group_counts.proofs.ByEntry.{text_values}
use Rattle.group_counts.proofs.entry_counts.count_all.Given as goal

abbrev pub invariant-loop-row : goal.invariant-loop-row
invariant-loop-row l = record {
  long : length l.counts ≡ length l.fn.counts;
  few : All (λ count. count ≤ l.row) l.counts;
  counted : (texts : List (List ℕ)) → length texts ≡ length l.fn.counts → (es : Entries)
      → added_all value_cmp (added_all value_cmp es (entry_counts texts l.counts)) (flagged (drop l.row l.mask) (drop l.row (text_values texts l.numbers)))
      ≡ added_all value_cmp (added_all value_cmp es (entry_counts texts l.fn.counts)) (flagged l.mask (text_values texts l.numbers));
}
