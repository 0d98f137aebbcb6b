use Rattle.std.proofs.Common.{◌≡◌}
use Rattle.group_counts.specs.Entries.{all_fit}
use Rattle.group_counts.proofs.maps.numbers_fit.Given as goal

abbrev pub invariant-loop-count : goal.invariant-loop-count
invariant-loop-count l = all_fit l.count-iterator ≡ all_fit l.counts.entries
