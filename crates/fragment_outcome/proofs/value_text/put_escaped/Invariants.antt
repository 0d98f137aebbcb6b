use Rattle.std.proofs.Common.{◌≤◌, ◌-◌, length, take}
use Rattle.fragment_outcome.specs.Sent.{held_by, Wrote}
use Rattle.fragment_outcome.specs.Text.{escaped}
use Rattle.fragment_outcome.proofs.value_text.put_escaped.Given as goal

abbrev pub invariant-loop-done : goal.invariant-loop-done
invariant-loop-done g l = record {
  within : l.done ≤ length l.text;
  wrote : Wrote (held_by l.fn.writer) (g.K.Sink.content l.fn.out) (g.K.Sink.fault_count l.fn.out) (held_by l.writer) (g.K.Sink.content l.out) (g.K.Sink.fault_count l.out) (escaped (take l.done l.text));
}

abbrev pub decreases-loop-done : goal.decreases-loop-done
decreases-loop-done g l = length l.text - l.done
