use Rattle.std.proofs.Common.{◌≡◌, ◌∷◌, refl, [], sym, ap, subst, arith, List, length, Ok, ◌∙◌, length-append}
use Rattle.fragment_outcome.specs.declared.outcome.Outcome.{Outcome}
use Rattle.plan_run.specs.Run.{HasRun}
use Rattle.plan_run.specs.Scanned.{AreSteps}
use Rattle.plan_run.specs.Steps.{HasBegun, IsRun}
use Rattle.plan_run.proofs.Begun.{begins, goes_on, ends}
use Rattle.plan_run.proofs.Stepping.{step_more}
use Rattle.plan_run.proofs.run.run_plan.Goals as goal

pub loop-number-init : goal.loop-number-init
loop-number-init g c = record {
  count = c.fragment_count-count.ensures.count;
  some = c.new-outcomes.ensures.len;
  begun = subst (λ (xs : List Outcome). HasBegun g.W.World.files (g.R.Scanner.fault_count c.args.scanner.now) (g.R.Scanner.fault_count c.args.scanner.now) c.args.plan.now xs)
      (sym c.new-outcomes.ensures.items) (begins g.W.World.files (g.R.Scanner.fault_count c.args.scanner.now) c.args.plan.now);
  same = g.met.R.Scanner.same_as_itself c.args.scanner.now;
  steps = subst (λ (xs : List Outcome). AreSteps g.R.Scanner.scanned c.args.plan.now 0 xs c.args.scanner.now c.args.scanner.now)
      (sym c.new-outcomes.ensures.items) refl;
}

pub loop-number-preserved : goal.loop-number-preserved
loop-number-preserved g c =
    let before = c.loop-number.outcomes.items in
    let after = c.in_ok-outcomes.outcomes.items in
    let long : length before ≡ c.loop-number.number = omega (arith, c.loop-number.invariant.some, c.loop-number.outcomes.ok.0) in
    let begun = goes_on g.W.World.files (g.R.Scanner.fault_count c.args.scanner.now) (g.R.Scanner.fault_count c.loop-number.scanner) (g.R.Scanner.fault_count c.run_fragment.new.scanner)
    c.args.plan.now before c.loop-number.number c.in_ok-outcome.outcome c.fragment_count-count.ensures.bounds long c.loop-number.invariant.begun
    (subst (λ (xs : List Outcome). IsRun g.W.World.files c.args.plan.now c.loop-number.number xs c.in_ok-outcome.outcome) c.as_slice.ensures.value c.in_ok-outcome.ensures.ran) c.in_ok-outcome.ensures.worded c.run_fragment.ensures.cause.later
    (λ is. c.run_fragment.ensures.cause.failed (c.in_ok-outcome.was ∙ ap Ok is)) in
    record {
      count = c.loop-number.invariant.count;
      some = omega (arith, c.in_ok-outcomes.outcomes.ok.0, long, ap length c.in_ok-outcomes.ensures, length-append before (c.in_ok-outcome.outcome ∷ []));
      begun = subst (λ (xs : List Outcome). HasBegun g.W.World.files (g.R.Scanner.fault_count c.args.scanner.now) (g.R.Scanner.fault_count c.run_fragment.new.scanner) c.args.plan.now xs)
          (sym c.in_ok-outcomes.ensures) begun;
      same = g.met.R.Scanner.same_on c.args.scanner.now c.loop-number.scanner c.run_fragment.new.scanner c.loop-number.invariant.same c.run_fragment.ensures.same;
      steps = subst (λ (xs : List Outcome). AreSteps g.R.Scanner.scanned c.args.plan.now 0 xs c.args.scanner.now c.run_fragment.new.scanner)
          (sym c.in_ok-outcomes.ensures)
          (step_more g.R.Scanner.scanned c.args.plan.now before c.in_ok-outcome.outcome 0 c.loop-number.number c.args.scanner.now c.loop-number.scanner
          c.run_fragment.new.scanner (omega (arith, long)) c.loop-number.invariant.steps c.in_ok-outcome.ensures.step);
    }

pub returns-clause-run : goal.returns-clause-run
returns-clause-run g c =
    subst (λ (xs : List Outcome). HasRun g.W.World.files (g.R.Scanner.fault_count c.args.scanner.now) (g.R.Scanner.fault_count c.loop-number.scanner) c.args.plan.now xs)
    (sym c.new.ensures)
    (ends g.W.World.files (g.R.Scanner.fault_count c.args.scanner.now) (g.R.Scanner.fault_count c.loop-number.scanner) c.args.plan.now c.loop-number.outcomes.items
    (omega (arith, c.loop-number.invariant.some, c.loop-number.invariant.count, c.loop-number.outcomes.ok.0)) c.loop-number.invariant.begun)

pub returns-clause-steps : goal.returns-clause-steps
returns-clause-steps g c =
    subst (λ (xs : List Outcome). AreSteps g.R.Scanner.scanned c.args.plan.now 0 xs c.args.scanner.now c.loop-number.scanner)
    (sym c.new.ensures) c.loop-number.invariant.steps
