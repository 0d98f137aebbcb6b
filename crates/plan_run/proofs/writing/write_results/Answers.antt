use Rattle.std.proofs.Common.{◌+◌, ℕ, List, drop, subst, arith}
use Rattle.std.proofs.lemmas.Result.{err_from_is_err_and}
use Rattle.fragment_outcome.specs.Text.{result_text}
use Rattle.plan_run.specs.Output.{results_from, results_text}
use Rattle.plan_run.specs.Steps.{HasWritten}
use Rattle.plan_run.proofs.Sending.{front_written, more_written, next_result}
use Rattle.plan_run.proofs.writing.write_results.Goals as goal

pub returns-in_err-write_result-clause-front : goal.returns-in_err-write_result-clause-front
returns-in_err-write_result-clause-front g c =
    let plan = c.args.plan.now in
    let outcomes = c.args.outcomes.now in
    let k = c.loop-number.number in
    let o = c.index-outcomes-number.result in
    let rest = results_from plan (k + 1) (drop (k + 1) outcomes) in
    let written = subst (λ (t : List ℕ). HasWritten (g.K.Sink.content c.args.out.now) (g.K.Sink.content c.loop-number.out) (results_text plan outcomes) t)
    (next_result plan outcomes k o (omega arith) c.index-outcomes-number.is) c.loop-number.invariant.written in
    let front = c.in_err-write_result.ensures.front in
    let p = err_from_is_err_and c.from_residual.result c.from_residual.ensures.1 in
    rw p.1 (front_written (g.K.Sink.content c.args.out.now) (g.K.Sink.content c.loop-number.out) (g.K.Sink.content c.write_result.new.out) (results_text plan outcomes)
    (result_text plan k o) rest front.0 written front.1 front.2)

pub loop-number-preserved : goal.loop-number-preserved
loop-number-preserved g c =
    let plan = c.args.plan.now in
    let outcomes = c.args.outcomes.now in
    let k = c.loop-number.number in
    let o = c.index-outcomes-number.result in
    let rest = results_from plan (k + 1) (drop (k + 1) outcomes) in
    let written = subst (λ (t : List ℕ). HasWritten (g.K.Sink.content c.args.out.now) (g.K.Sink.content c.loop-number.out) (results_text plan outcomes) t)
    (next_result plan outcomes k o (omega arith) c.index-outcomes-number.is) c.loop-number.invariant.written in
    record {
      later = omega (arith, c.loop-number.invariant.later, c.write_result.ensures.cause.later);
      written = more_written (g.K.Sink.content c.args.out.now) (g.K.Sink.content c.loop-number.out) (g.K.Sink.content c.write_result.new.out) (results_text plan outcomes)
          (result_text plan k o) rest written c.in_ok-write_result.ensures.written;
    }
