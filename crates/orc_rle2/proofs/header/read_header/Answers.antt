use Rattle.std.proofs.Common.{◌<◌, ◌≤◌, Ok, Err, arith, rules}
use Rattle.std.proofs.lemmas.Result.{err_from_is_err_and}
use Rattle.outside.specs.Reading.{byte, mapped, value}
use Rattle.outside.specs.ReadingLaws.{Reads-then, Reads-same, Reads-map, Reads-fault}
use Rattle.orc_rle2.specs.Header.{header_after, long_header}
use Rattle.orc_rle2.specs.IntRun2.{code_of, run_len}
use Rattle.orc_rle2.proofs.Headers.{header_after-long}
use Rattle.orc_rle2.proofs.header.read_header.Goals as goal

pub returns-in_err-second-clause-reads : goal.returns-in_err-second-clause-reads
returns-in_err-second-clause-reads g c =
    let f = g.F.Feed in
    let law = g.met.F.Feed in
    let a = c.args in
    let first = c.in_ok-first.first in
    let ge : 64 ≤ first = omega (arith, c.if-first-lt64.false) in
    let lt : first < 256 = search rules in
    let fault = c.in_err-second.field-0.0 in
    let between = c.take_byte.new.feed in
    let last = c.take_byte-2.new.feed in
    let p = err_from_is_err_and c.from_residual-in_err-second.result c.from_residual-in_err-second.ensures.1 in
    rw (p.1, p.2) (Reads-then f.rest f.fed f.fault_count a.stream law.fed_nothing law.fed_joined a.feed.now between last byte header_after first (Err fault) c.in_ok-first.ensures
    (Reads-same f.rest f.fed f.fault_count a.stream law.fed_nothing law.fed_joined between last (header_after first) (mapped (λ second. long_header first (code_of first) (run_len first second)) byte) (Err fault) (λ bytes. header_after-long first bytes ge lt)
    (Reads-fault f.rest f.fed f.fault_count a.stream law.fed_nothing law.fed_joined between last byte (λ second. value (long_header first (code_of first) (run_len first second))) fault c.in_err-second.ensures)))

pub returns-clause-reads : goal.returns-clause-reads
returns-clause-reads g c =
    let f = g.F.Feed in
    let law = g.met.F.Feed in
    let a = c.args in
    let first = c.in_ok-first.first in
    let second = c.in_ok-second.second in
    let ge : 64 ≤ first = omega (arith, c.if-first-lt64.false) in
    let lt : first < 256 = search rules in
    let between = c.take_byte.new.feed in
    let last = c.take_byte-2.new.feed in
    let header = long_header first (code_of first) (run_len first second) in
    rw c.long_header.ensures.value (Reads-then f.rest f.fed f.fault_count a.stream law.fed_nothing law.fed_joined a.feed.now between last byte header_after first (Ok header) c.in_ok-first.ensures
    (Reads-same f.rest f.fed f.fault_count a.stream law.fed_nothing law.fed_joined between last (header_after first) (mapped (λ second. long_header first (code_of first) (run_len first second)) byte) (Ok header) (λ bytes. header_after-long first bytes ge lt)
    (Reads-map f.rest f.fed f.fault_count a.stream law.fed_nothing law.fed_joined between last byte (λ second. long_header first (code_of first) (run_len first second)) second c.in_ok-second.ensures)))
