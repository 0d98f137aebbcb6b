use Rattle.std.proofs.Common.{◌≡◌, refl, Err}
use Rattle.outside.specs.Cause.{Rose}
use Rattle.fragment_plan.specs.Plan.{plan_of}
use Rattle.data_path.specs.declared.status.Status.TheVariants.{BadPlan}
use Rattle.data_path.specs.FaultLine.{fault_text}
use Rattle.data_path.specs.Geometries.{IsThrough}
use Rattle.data_path.specs.Headline.{Prints}
use Rattle.data_path.specs.Headline.Prints.{bad_plan, ran}
use Rattle.data_path.specs.RunText.{run_text}
use Rattle.data_path.specs.Statuses.{status_of}
use Rattle.data_path.proofs.Answering.{completes_alone, status_is_of_text, written_answers}
use Rattle.data_path.proofs.inline.alone.Goals as goal

pub returns-in-Err-Fault-clause-answers : goal.returns-in-Err-Fault-clause-answers
returns-in-Err-Fault-clause-answers g c =
    let last = c.args.last.now in
    let fault : plan_of c.args.plan.now ≡ Err (c.in-Err-Fault.line, c.in-Err-Fault.kind) = rw c.in-Err-Fault.field-0-is at c.in-Err-Fault.ensures in
    written_answers (Prints g.W.World.files (IsThrough _ g.W.World.files (g.S.Store.reads last) (g.S.Store.reads last) c.args.options.now) (g.S.Store.fault_count last) (g.S.Store.fault_count last) (g.S.Store.reads last) (g.S.Store.reads last) (last ≡ last) c.args.plan.now) ⊥
    (g.K.Sink.content c.args.out.now) (g.K.Sink.content c.written.new.out) (g.K.Sink.fault_count c.args.out.now) (g.K.Sink.fault_count c.written.new.out)
    (fault_text c.in-Err-Fault.line c.in-Err-Fault.kind) BadPlan c.written.result tt (bad_plan fault refl)
    (rw (c.as_slice.ensures, c.in-Ok-fault_line.ensures) at c.written.ensures)

pub returns-in-Ok-run_over-clause-answers : goal.returns-in-Ok-run_over-clause-answers
returns-in-Ok-run_over-clause-answers g c =
    let last = c.args.last.now in
    let after = c.run_over.new.last in
    let outcomes = c.in-Ok-run_over.outcomes in
    let totals = c.in-Ok-run_over.totals in
    written_answers (Prints g.W.World.files (IsThrough _ g.W.World.files (g.S.Store.reads last) (g.S.Store.reads after) c.args.options.now) (g.S.Store.fault_count last) (g.S.Store.fault_count after) (g.S.Store.reads last) (g.S.Store.reads after) (after ≡ last) c.args.plan.now) ⊥
    (g.K.Sink.content c.args.out.now) (g.K.Sink.content c.run_written.new.out) (g.K.Sink.fault_count c.args.out.now) (g.K.Sink.fault_count c.run_written.new.out)
    (run_text c.in-Ok.plan outcomes totals) (status_of outcomes) c.run_written.result (status_is_of_text outcomes) (ran c.in-Ok.ensures c.in-Ok-run_over.ensures.run c.in-Ok-run_over.ensures.counted c.in-Ok-run_over.ensures.through)
    (rw c.as_slice-in-Ok-run_over.ensures at c.run_written.ensures)

pub returns-in-Ok-run_over-clause-complete : goal.returns-in-Ok-run_over-clause-complete
returns-in-Ok-run_over-clause-complete g c =
    completes_alone c.quiet_runs_mean_the_plan.ensures g.W.World.files (IsThrough _ g.W.World.files (g.S.Store.reads c.args.last.now) (g.S.Store.reads c.run_over.new.last) c.args.options.now) (g.S.Store.fault_count c.args.last.now) (g.S.Store.fault_count c.run_over.new.last)
    (g.S.Store.reads c.args.last.now) (g.S.Store.reads c.run_over.new.last)
    (c.run_over.new.last ≡ c.args.last.now) (Rose (g.K.Sink.fault_count c.args.out.now) (g.K.Sink.fault_count c.run_written.new.out)) c.args.plan.now
    (g.K.Sink.content c.args.out.now) (g.K.Sink.content c.run_written.new.out) c.run_written.result (returns-in-Ok-run_over-clause-answers g c)
