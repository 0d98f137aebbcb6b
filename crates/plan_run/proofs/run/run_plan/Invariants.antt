use Rattle.std.proofs.Common.{◌≡◌, length, vec_len}
use Rattle.plan_run.specs.Scanned.{AreSteps}
use Rattle.plan_run.specs.Steps.{HasBegun}
use Rattle.plan_run.proofs.run.run_plan.Given as goal

abbrev pub invariant-loop-number : goal.invariant-loop-number
invariant-loop-number g l = record {
  count : l.count ≡ length l.plan;
  some : vec_len l.outcomes ≡ l.number;
  begun : HasBegun g.W.World.files (g.R.Scanner.fault_count l.fn.scanner) (g.R.Scanner.fault_count l.scanner) l.plan l.outcomes.items;
  same : g.R.Scanner.same l.fn.scanner l.scanner;
  steps : AreSteps g.R.Scanner.scanned l.plan 0 l.outcomes.items l.fn.scanner l.scanner;
}
