use Rattle.std.proofs.Common.{◌≡◌, length, Ok, Err, arith, append-nil}
use Rattle.std.proofs.lemmas.List.{take_at}
use Rattle.std.proofs.lemmas.Result.{err_from_is_err_and}
use Rattle.outside.specs.Reading.{byte}
use Rattle.outside.specs.ReadingLaws.{Reads-then}
use Rattle.orc_rle.specs.IntRun1.{run_after}
use Rattle.orc_rle.proofs.run1.give_run.Goals as goal

pub returns-in_err-read_body-clause-reads : goal.returns-in_err-read_body-clause-reads
returns-in_err-read_body-clause-reads g c =
    let f = g.F.Feed in
    let law = g.met.F.Feed in
    let a = c.args in
    let p = err_from_is_err_and c.from_residual-in_err-read_body.result c.from_residual-in_err-read_body.ensures.1 in
    rw (p.1, p.2) (Reads-then f.rest f.fed f.fault_count a.stream law.fed_nothing law.fed_joined a.feed.now c.take_byte.new.feed c.read_body.new.feed byte (run_after a.signed) c.in_ok-control.control (Err c.in_err-read_body.field-0.0) c.in_ok-control.ensures c.in_err-read_body.ensures)

pub returns-then-count-out-clause-reads : goal.returns-then-count-out-clause-reads
returns-then-count-out-clause-reads g c =
    let f = g.F.Feed in
    let law = g.met.F.Feed in
    let a = c.args in
    let into = c.read_body.new.into in
    let back = c.split_at_mut-into.result.1.now in
    let len : length into ≡ c.run_len-count.result = omega (arith, c.read_body.auto.into, c.split_at_mut-into.ensures.front_len) in
    rw (take_at into back c.run_len-count.result len, c.requires.none, append-nil into)
    (Reads-then f.rest f.fed f.fault_count a.stream law.fed_nothing law.fed_joined a.feed.now c.take_byte.new.feed c.read_body.new.feed byte (run_after a.signed) c.in_ok-control.control (Ok into) c.in_ok-control.ensures c.in_ok-read_body.ensures)

pub returns-in_err-hold_body-clause-reads : goal.returns-in_err-hold_body-clause-reads
returns-in_err-hold_body-clause-reads g c =
    let f = g.F.Feed in
    let law = g.met.F.Feed in
    let a = c.args in
    let p = err_from_is_err_and c.from_residual-in_err-hold_body.result c.from_residual-in_err-hold_body.ensures.1 in
    rw (p.1, p.2) (Reads-then f.rest f.fed f.fault_count a.stream law.fed_nothing law.fed_joined a.feed.now c.take_byte.new.feed c.hold_body.new.feed byte (run_after a.signed) c.in_ok-control.control (Err c.in_err-hold_body.field-0.0) c.in_ok-control.ensures c.in_err-hold_body.ensures.reads)

pub returns-clause-reads : goal.returns-clause-reads
returns-clause-reads g c =
    let f = g.F.Feed in
    let law = g.met.F.Feed in
    let a = c.args in
    rw (← c.give.ensures.parts) (Reads-then f.rest f.fed f.fault_count a.stream law.fed_nothing law.fed_joined a.feed.now c.take_byte.new.feed c.hold_body.new.feed byte (run_after a.signed) c.in_ok-control.control (Ok c.hold_body.new.held) c.in_ok-control.ensures c.in_ok-hold_body.ensures.reads)
