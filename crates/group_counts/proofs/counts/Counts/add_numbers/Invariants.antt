use Rattle.std.proofs.Common.{◌≡◌}
use Rattle.orc_values.specs.declared.value.Value.TheVariants as value
use Rattle.group_counts.specs.Order.{value_cmp}
use Rattle.group_counts.specs.Tally.{added_all}
use Rattle.group_counts.specs.Entries.{renamed}
use Rattle.group_counts.proofs.counts.Counts.add_numbers.Given as goal

abbrev pub invariant-loop-number : goal.invariant-loop-number
invariant-loop-number l = added_all value_cmp l.self (renamed (λ n. value.Int n) l.number-iterator) ≡ added_all value_cmp l.fn.self (renamed (λ n. value.Int n) l.other.entries)
