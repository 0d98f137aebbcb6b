use Rattle.std.proofs.Common.{◌≡◌, ◌+◌, ◌-◌, ◌<◌, ◌≤◌, replicate, Ok, Err, arith, rules}
use Rattle.std.proofs.lemmas.Result.{err_from_is_err_and}
use Rattle.outside.specs.Reading.{mapped, byte, exactly, value}
use Rattle.outside.specs.ReadingLaws.{Reads-same, Reads-map, Reads-fault}
use Rattle.orc_rle.specs.ByteRun.{bytes_after}
use Rattle.orc_rle.proofs.ByteRunReader.{bytes_after-repeated, bytes_after-literals}
use Rattle.orc_rle.proofs.byte_run.read_after.Goals as goal

pub returns-in_err-value-clause-reads : goal.returns-in_err-value-clause-reads
returns-in_err-value-clause-reads g c =
    let f = g.F.Feed in
    let law = g.met.F.Feed in
    let a = c.args in
    let control = a.control in
    let lt : control < 128 = omega (arith, c.from-control.ensures, c.if-control-lt128.true) in
    let last = c.take_byte.new.feed in
    let fault = c.in_err-value.field-0.0 in
    let p = err_from_is_err_and c.from_residual.result c.from_residual.ensures.1 in
    rw (p.1, p.2) (Reads-same f.rest f.fed f.fault_count a.stream law.fed_nothing law.fed_joined a.feed.now last (bytes_after control) (mapped (replicate (control + 3)) byte) (Err fault) (λ bytes. bytes_after-repeated control bytes lt)
    (Reads-fault f.rest f.fed f.fault_count a.stream law.fed_nothing law.fed_joined a.feed.now last byte (λ number. value (replicate (control + 3) number)) fault c.in_err-value.ensures))

pub returns-in_ok-value-clause-reads : goal.returns-in_ok-value-clause-reads
returns-in_ok-value-clause-reads g c =
    let f = g.F.Feed in
    let law = g.met.F.Feed in
    let a = c.args in
    let control = a.control in
    let lt : control < 128 = omega (arith, c.from-control.ensures, c.if-control-lt128.true) in
    let last = c.take_byte.new.feed in
    let number = c.in_ok-value.value in
    let is : c.repeat.new.self ≡ replicate (control + 3) number = rw c.from-control.ensures at c.repeat.ensures in
    rw is (Reads-same f.rest f.fed f.fault_count a.stream law.fed_nothing law.fed_joined a.feed.now last (bytes_after control) (mapped (replicate (control + 3)) byte) (Ok (replicate (control + 3) number)) (λ bytes. bytes_after-repeated control bytes lt)
    (Reads-map f.rest f.fed f.fault_count a.stream law.fed_nothing law.fed_joined a.feed.now last byte (replicate (control + 3)) number c.in_ok-value.ensures))

pub returns-else-control-lt128-clause-reads : goal.returns-else-control-lt128-clause-reads
returns-else-control-lt128-clause-reads g c =
    let f = g.F.Feed in
    let law = g.met.F.Feed in
    let a = c.args in
    let control = a.control in
    let ge : 128 ≤ control = omega (arith, c.from-control.ensures, c.if-control-lt128.false) in
    let lt : control < 256 = search rules in
    let reads = rw c.from-control.ensures at c.take.ensures.reads in
    Reads-same f.rest f.fed f.fault_count a.stream law.fed_nothing law.fed_joined a.feed.now c.take.new.feed (bytes_after control) (exactly (256 - control)) _ (λ bytes. bytes_after-literals control bytes ge lt) reads

pub returns-else-control-lt128-clause-some : goal.returns-else-control-lt128-clause-some
returns-else-control-lt128-clause-some g c =
    let control = c.args.control in
    let lt : control < 256 = search rules in
    c.take.ensures.some (omega (arith, c.from-control.ensures))
