use Rattle.std.proofs.Common.{◌≡◌, ◌++◌, List, ℕ}
use Rattle.orc_values.specs.declared.value.Value.TheVariants as value
use Rattle.group_counts.specs.Entries.{renamed}
use Rattle.fragment_outcome.specs.Sent.{held_by, Wrote}
use Rattle.fragment_outcome.specs.Text.{groups_text}
use Rattle.fragment_outcome.proofs.lines.put_numbers.Given as goal

abbrev pub invariant-loop-number : goal.invariant-loop-number
invariant-loop-number g l =
    (done : List ℕ) × Wrote (held_by l.fn.writer) (g.K.Sink.content l.fn.out) (g.K.Sink.fault_count l.fn.out) (held_by l.writer) (g.K.Sink.content l.out) (g.K.Sink.fault_count l.out) done
    × (done ++ groups_text (renamed (λ n. value.Int n) l.number-iterator) ≡ groups_text (renamed (λ n. value.Int n) l.counts.entries))
