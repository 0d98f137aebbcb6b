use Rattle.std.proofs.Common.{refl}
use Rattle.ledgers.specs.Text.{cache_text}
use Rattle.plan_run.specs.Output.{results_text}
use Rattle.data_path.specs.Statuses.{status_of}
use Rattle.data_path.proofs.TwoTexts.{both_written, first_failed, rose_later, second_failed}
use Rattle.data_path.proofs.writing.run_written.Goals as goal

pub returns-in-Ok-write_cache : goal.returns-in-Ok-write_cache
returns-in-Ok-write_cache g c =
    rw c.status_after.ensures (both_written (results_text c.args.plan.now c.args.outcomes.now) (cache_text c.args.totals.now) (status_of c.args.outcomes.now)
    (g.K.Sink.content c.args.out.now) (g.K.Sink.content c.write_results.new.out) (g.K.Sink.content c.write_cache.new.out)
    (g.K.Sink.fault_count c.args.out.now) (g.K.Sink.fault_count c.write_cache.new.out) c.in-Ok.ensures.written c.in-Ok-write_cache.ensures.written)

pub returns-in-Err-write_cache : goal.returns-in-Err-write_cache
returns-in-Err-write_cache g c =
    let front = c.in-Err-write_cache.ensures.front in
    second_failed (results_text c.args.plan.now c.args.outcomes.now) (cache_text c.args.totals.now) (status_of c.args.outcomes.now)
    (g.K.Sink.content c.args.out.now) (g.K.Sink.content c.write_results.new.out) (g.K.Sink.content c.write_cache.new.out)
    (g.K.Sink.fault_count c.args.out.now) (g.K.Sink.fault_count c.write_cache.new.out) front.0 c.in-Ok.ensures.written front.1 front.2
    (rose_later (g.K.Sink.fault_count c.args.out.now) (g.K.Sink.fault_count c.write_results.new.out) (g.K.Sink.fault_count c.write_cache.new.out)
    c.in-Ok.ensures.cause.later (c.in-Err-write_cache.ensures.cause.failed refl))

pub returns-in-Err : goal.returns-in-Err
returns-in-Err g c =
    let front = c.in-Err.ensures.front in
    first_failed (results_text c.args.plan.now c.args.outcomes.now) (cache_text c.args.totals.now) (status_of c.args.outcomes.now)
    (g.K.Sink.content c.args.out.now) (g.K.Sink.content c.write_results.new.out) (g.K.Sink.fault_count c.args.out.now)
    (g.K.Sink.fault_count c.write_results.new.out) front.0 front.1 front.2 (c.in-Err.ensures.cause.failed refl)
