use Rattle.std.proofs.Common.{◌≡◌, ◌≤◌, ◌-◌, ℕ, List, length, drop, All}
use Rattle.orc_values.specs.declared.value.Value.TheVariants as value
use Rattle.orc_values.specs.Chosen.{places_of, chosen}
use Rattle.orc_values.specs.Woven.{present_count}
use Rattle.group_counts.specs.Order.{value_cmp}
use Rattle.group_counts.specs.Tally.{added_all}
use Rattle.group_counts.specs.Entries.{Entries}
use Rattle.group_counts.specs.Slots.{counted}
use Rattle.group_counts.specs.EntryCounts.{entry_counts, flagged}
use Rattle.group_counts.proofs.ByEntry.{rows_of}
use Rattle.group_counts.proofs.entry_counts.count_some.Given as goal

abbrev pub invariant-loop-row : goal.invariant-loop-row
invariant-loop-row l = record {
  long : length l.counts ≡ length l.fn.counts;
  few : All (λ count. count ≤ l.row) l.counts;
  nulls : l.nulls ≤ l.row;
  before : l.before ≤ length l.numbers;
  left : present_count (drop l.row l.present) ≡ length l.numbers - l.before;
  counted : (texts : List (List ℕ)) → length texts ≡ length l.fn.counts → (es : Entries)
      → added_all value_cmp (added_all value_cmp (added_all value_cmp es (counted value.Null l.nulls)) (entry_counts texts l.counts))
      (flagged (drop l.row l.mask) (rows_of (drop l.row l.present) (drop l.before (chosen texts (places_of l.numbers)))))
      ≡ added_all value_cmp (added_all value_cmp es (entry_counts texts l.fn.counts)) (flagged l.mask (rows_of l.present (chosen texts (places_of l.numbers))));
}
