use Rattle.std.proofs.Common.{◌≤◌, drop}
use Rattle.plan_run.specs.Output.{results_from, results_text}
use Rattle.plan_run.specs.Steps.{HasWritten}
use Rattle.plan_run.proofs.writing.write_results.Given as goal

abbrev pub invariant-loop-number : goal.invariant-loop-number
invariant-loop-number g l = record {
  later : g.K.Sink.fault_count l.fn.out ≤ g.K.Sink.fault_count l.out;
  written : HasWritten (g.K.Sink.content l.fn.out) (g.K.Sink.content l.out) (results_text l.plan l.outcomes)
      (results_from l.plan l.number (drop l.number l.outcomes));
}
