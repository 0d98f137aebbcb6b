use Rattle.std.proofs.Common.{◌≡◌, length, Ok, Err, arith, append-nil}
use Rattle.std.proofs.lemmas.List.{take_at}
use Rattle.std.proofs.lemmas.Result.{err_from_is_err_and}
use Rattle.outside.specs.Reading.{bind}
use Rattle.outside.specs.ReadingLaws.{Reads-then, Reads-same, Reads-fault}
use Rattle.orc_rle2.specs.Header.{run_header, run_body}
use Rattle.orc_rle2.specs.IntRun2.{int_run2}
use Rattle.orc_rle2.proofs.Headers.{by_header}
use Rattle.orc_rle2.proofs.run2.give_run.Goals as goal

pub returns-in_err-read_body-clause-reads : goal.returns-in_err-read_body-clause-reads
returns-in_err-read_body-clause-reads g c =
    let f = g.F.Feed in
    let law = g.met.F.Feed in
    let a = c.args in
    let p = err_from_is_err_and c.from_residual-in_err-read_body.result c.from_residual-in_err-read_body.ensures.1 in
    rw (p.1, p.2) (Reads-same f.rest f.fed f.fault_count a.stream law.fed_nothing law.fed_joined a.feed.now c.read_body.new.feed (int_run2 a.signed) (bind run_header (run_body a.signed)) (Err c.in_err-read_body.field-0.0) (by_header a.signed)
    (Reads-then f.rest f.fed f.fault_count a.stream law.fed_nothing law.fed_joined a.feed.now c.read_header.new.feed c.read_body.new.feed run_header (run_body a.signed) c.in_ok-header.header (Err c.in_err-read_body.field-0.0) c.in_ok-header.ensures.reads c.in_err-read_body.ensures))

pub returns-then-count-out-clause-reads : goal.returns-then-count-out-clause-reads
returns-then-count-out-clause-reads g c =
    let f = g.F.Feed in
    let law = g.met.F.Feed in
    let a = c.args in
    let into = c.read_body.new.into in
    let back = c.split_at_mut-into.result.1.now in
    let len : length into ≡ c.count-count.result = omega (arith, c.read_body.auto.into, c.split_at_mut-into.ensures.front_len) in
    rw (take_at into back c.count-count.result len, c.requires.none, append-nil into)
    (Reads-same f.rest f.fed f.fault_count a.stream law.fed_nothing law.fed_joined a.feed.now c.read_body.new.feed (int_run2 a.signed) (bind run_header (run_body a.signed)) (Ok into) (by_header a.signed)
    (Reads-then f.rest f.fed f.fault_count a.stream law.fed_nothing law.fed_joined a.feed.now c.read_header.new.feed c.read_body.new.feed run_header (run_body a.signed) c.in_ok-header.header (Ok into) c.in_ok-header.ensures.reads c.in_ok-read_body.ensures))

pub returns-in_err-hold_body-clause-reads : goal.returns-in_err-hold_body-clause-reads
returns-in_err-hold_body-clause-reads g c =
    let f = g.F.Feed in
    let law = g.met.F.Feed in
    let a = c.args in
    let p = err_from_is_err_and c.from_residual-in_err-hold_body.result c.from_residual-in_err-hold_body.ensures.1 in
    rw (p.1, p.2) (Reads-same f.rest f.fed f.fault_count a.stream law.fed_nothing law.fed_joined a.feed.now c.hold_body.new.feed (int_run2 a.signed) (bind run_header (run_body a.signed)) (Err c.in_err-hold_body.field-0.0) (by_header a.signed)
    (Reads-then f.rest f.fed f.fault_count a.stream law.fed_nothing law.fed_joined a.feed.now c.read_header.new.feed c.hold_body.new.feed run_header (run_body a.signed) c.in_ok-header.header (Err c.in_err-hold_body.field-0.0) c.in_ok-header.ensures.reads c.in_err-hold_body.ensures.reads))

pub returns-clause-reads : goal.returns-clause-reads
returns-clause-reads g c =
    let f = g.F.Feed in
    let law = g.met.F.Feed in
    let a = c.args in
    rw (← c.give.ensures.parts) (Reads-same f.rest f.fed f.fault_count a.stream law.fed_nothing law.fed_joined a.feed.now c.hold_body.new.feed (int_run2 a.signed) (bind run_header (run_body a.signed)) (Ok c.hold_body.new.held) (by_header a.signed)
    (Reads-then f.rest f.fed f.fault_count a.stream law.fed_nothing law.fed_joined a.feed.now c.read_header.new.feed c.hold_body.new.feed run_header (run_body a.signed) c.in_ok-header.header (Ok c.hold_body.new.held) c.in_ok-header.ensures.reads c.in_ok-hold_body.ensures.reads))

pub returns-in_err-header-clause-reads : goal.returns-in_err-header-clause-reads
returns-in_err-header-clause-reads g c =
    let f = g.F.Feed in
    let law = g.met.F.Feed in
    let a = c.args in
    let p = err_from_is_err_and c.from_residual.result c.from_residual.ensures.1 in
    rw (p.1, p.2) (Reads-same f.rest f.fed f.fault_count a.stream law.fed_nothing law.fed_joined a.feed.now c.read_header.new.feed (int_run2 a.signed) (bind run_header (run_body a.signed)) (Err c.in_err-header.field-0.0) (by_header a.signed)
    (Reads-fault f.rest f.fed f.fault_count a.stream law.fed_nothing law.fed_joined a.feed.now c.read_header.new.feed run_header (run_body a.signed) c.in_err-header.field-0.0 c.in_err-header.ensures.reads))
