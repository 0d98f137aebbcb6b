use Rattle.std.proofs.Common.{take}
use Rattle.fragment_outcome.specs.Sent.{held_by, Wrote}
use Rattle.fragment_outcome.specs.Text.{tabbed}
use Rattle.fragment_outcome.proofs.value_text.put_others.Given as goal

abbrev pub invariant-loop-value : goal.invariant-loop-value
invariant-loop-value g l = Wrote (held_by l.fn.writer) (g.K.Sink.content l.fn.out) (g.K.Sink.fault_count l.fn.out) (held_by l.writer) (g.K.Sink.content l.out) (g.K.Sink.fault_count l.out) (tabbed (take l.value-index l.values))
