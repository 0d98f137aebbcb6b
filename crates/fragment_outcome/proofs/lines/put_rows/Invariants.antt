use Rattle.std.proofs.Common.{take}
use Rattle.fragment_outcome.specs.Sent.{held_by, Wrote}
use Rattle.fragment_outcome.specs.Text.{rows_text}
use Rattle.fragment_outcome.proofs.lines.put_rows.Given as goal

abbrev pub invariant-loop-row : goal.invariant-loop-row
invariant-loop-row g l = Wrote (held_by l.fn.writer) (g.K.Sink.content l.fn.out) (g.K.Sink.fault_count l.fn.out) (held_by l.writer) (g.K.Sink.content l.out) (g.K.Sink.fault_count l.out) (rows_text (take l.row-index l.rows))
