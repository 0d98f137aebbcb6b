use Rattle.std.proofs.Common.{[], refl, length, take, arith, Result, Ok, Err}
use Rattle.std.proofs.lemmas.Result.{err_from_is_err_and}
use Rattle.outside.specs.declared.run_fault.RunFault.{RunFault}
use Rattle.outside.specs.FillingLaws.{Fills-give}
use Rattle.outside.specs.LendingLaws.{Fills-in}
use Rattle.orc_rle2.specs.IntRun2.{IntRun2, int_run2}
use Rattle.orc_rle2.proofs.Given.{Fills-one}
use Rattle.orc_rle2.proofs.RunReader.{int_run2_reads}
use Rattle.orc_rle2.proofs.int_runs2.give_runs.Goals as goal

pub returns-then-given-eq0-clause-fills : goal.returns-then-given-eq0-clause-fills
returns-then-given-eq0-clause-fills g c =
    let f = g.F.Feed in
    let law = g.met.F.Feed in
    let a = c.args in
    Fills-one f.rest f.fed f.fault_count a.stream law.fed_nothing law.fed_joined (IntRun2 a.signed) (int_run2 a.signed) (int_run2_reads a.signed)
    a.feed.now c.give_run.new.feed c.give_run.new.out c.give_run.new.held (length a.out.now) c.requires.asked (omega (arith, c.give_run.auto.out, c.give_runs_in-given.auto.out)) c.give_run.result c.give_run.ensures.reads (rw c.give_runs_in-given.auto.out at c.give_run.ensures.gives)

pub returns-in_err-skip_exactly-clause-fills : goal.returns-in_err-skip_exactly-clause-fills
returns-in_err-skip_exactly-clause-fills g c =
    let f = g.F.Feed in
    let law = g.met.F.Feed in
    let a = c.args in
    let r = c.give_runs_in-given in
    let p = err_from_is_err_and c.from_residual.result c.from_residual.ensures.1 in
    let none = Fills-give f.rest f.fed f.fault_count a.stream law.fed_nothing law.fed_joined (IntRun2 a.signed) (int_run2 a.signed) (int_run2_reads a.signed) a.feed.now [] [] [] (length a.out.now) refl in
    let failed : Result (Unit {0}) RunFault = Err c.in_err-skip_exactly.field-0.0 in
    rw (p.1, p.2) (Fills-in f.rest f.fed f.fault_count a.stream law.fed_joined (IntRun2 a.signed) (int_run2 a.signed) a.feed.now a.feed.now c.skip_exactly.new.feed [] [] (take r.result.0 r.new.out) r.new.held (length a.out.now)
    c.lent-lent.result.now r.result.1.now failed none c.lent-lent.ensures r.ensures.fills c.in_err-skip_exactly.ensures)

pub returns-clause-fills : goal.returns-clause-fills
returns-clause-fills g c =
    let f = g.F.Feed in
    let law = g.met.F.Feed in
    let a = c.args in
    let r = c.give_runs_in-given in
    let none = Fills-give f.rest f.fed f.fault_count a.stream law.fed_nothing law.fed_joined (IntRun2 a.signed) (int_run2 a.signed) (int_run2_reads a.signed) a.feed.now [] [] [] (length a.out.now) refl in
    let done : Result (Unit {0}) RunFault = Ok tt in
    Fills-in f.rest f.fed f.fault_count a.stream law.fed_joined (IntRun2 a.signed) (int_run2 a.signed) a.feed.now a.feed.now c.skip_exactly.new.feed [] [] (take r.result.0 r.new.out) r.new.held (length a.out.now)
    c.lent-lent.result.now r.result.1.now done none c.lent-lent.ensures r.ensures.fills c.in_ok-skip_exactly.ensures
