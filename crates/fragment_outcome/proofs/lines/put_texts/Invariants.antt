use Rattle.std.proofs.Common.{◌≡◌, ◌++◌, List, ℕ}
use Rattle.orc_values.specs.declared.value.Value.TheVariants as value
use Rattle.group_counts.specs.Entries.{renamed, by_bytes}
use Rattle.fragment_outcome.specs.Sent.{held_by, Wrote}
use Rattle.fragment_outcome.specs.Text.{groups_text}
use Rattle.fragment_outcome.proofs.lines.put_texts.Given as goal

abbrev pub invariant-loop-text : goal.invariant-loop-text
invariant-loop-text g l =
    (done : List ℕ) × Wrote (held_by l.fn.writer) (g.K.Sink.content l.fn.out) (g.K.Sink.fault_count l.fn.out) (held_by l.writer) (g.K.Sink.content l.out) (g.K.Sink.fault_count l.out) done
    × (done ++ groups_text (renamed (λ t. value.Text t) (by_bytes l.text-iterator)) ≡ groups_text (renamed (λ t. value.Text t) (by_bytes l.counts.entries)))
