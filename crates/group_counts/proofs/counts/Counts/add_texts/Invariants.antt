use Rattle.std.proofs.Common.{◌≡◌}
use Rattle.orc_values.specs.declared.value.Value.TheVariants as value
use Rattle.group_counts.specs.Order.{value_cmp}
use Rattle.group_counts.specs.Tally.{added_all}
use Rattle.group_counts.specs.Entries.{renamed, by_bytes}
use Rattle.group_counts.proofs.counts.Counts.add_texts.Given as goal

abbrev pub invariant-loop-text : goal.invariant-loop-text
invariant-loop-text l = added_all value_cmp l.self (renamed (λ t. value.Text t) (by_bytes l.text-iterator)) ≡ added_all value_cmp l.fn.self (renamed (λ t. value.Text t) (by_bytes l.other.entries))
