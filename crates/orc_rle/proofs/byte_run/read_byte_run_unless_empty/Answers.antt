use Rattle.std.proofs.lemmas.Result.{err_from_is_err_and}
use Rattle.orc_rle.specs.ByteRun.{bytes_after}
use Rattle.orc_rle.proofs.EmptyStream.{Reads-first, Reads-first_fault}
use Rattle.orc_rle.proofs.byte_run.read_byte_run_unless_empty.Goals as goal

pub returns-in_err-read_after-clause-reads : goal.returns-in_err-read_after-clause-reads
returns-in_err-read_after-clause-reads g c =
    let f = g.F.Feed in
    let law = g.met.F.Feed in
    let a = c.args in
    let p = err_from_is_err_and c.from_residual-in_err-read_after.result c.from_residual-in_err-read_after.ensures.1 in
    let first = rw c.in-Some.is at c.in_ok-control.ensures in
    rw (p.1, p.2) (Reads-first_fault f.rest f.fed f.fault_count a.stream law.fed_nothing law.fed_joined a.feed.now c.take_next.new.feed c.read_after.new.feed bytes_after c.in-Some.control c.in_err-read_after.field-0.0 first c.in_err-read_after.ensures.reads)

pub returns-clause-reads : goal.returns-clause-reads
returns-clause-reads g c =
    let f = g.F.Feed in
    let law = g.met.F.Feed in
    let a = c.args in
    let first = rw c.in-Some.is at c.in_ok-control.ensures in
    Reads-first f.rest f.fed f.fault_count a.stream law.fed_nothing law.fed_joined a.feed.now c.take_next.new.feed c.read_after.new.feed bytes_after c.in-Some.control c.read_after.new.held first c.in_ok-read_after.ensures.reads
