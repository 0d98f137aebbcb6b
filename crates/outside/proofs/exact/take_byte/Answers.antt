use Rattle.std.proofs.Common.{get_or, Err}
use Rattle.std.proofs.lemmas.Result.{err_from_is_err_and}
use Rattle.outside.specs.Reading.{byte, exactly, mapped, value}
use Rattle.outside.specs.ReadingLaws.{Reads-same, Reads-map, Reads-fault}
use Rattle.outside.proofs.Reading.{byte-exactly}
use Rattle.outside.proofs.exact.take_byte.Goals as goal

pub returns-in_err-take_exactly : goal.returns-in_err-take_exactly
returns-in_err-take_exactly g c =
    let f = g.F.Feed in
    let law = g.met.F.Feed in
    let p = err_from_is_err_and c.from_residual.result c.from_residual.ensures.1 in
    let last = c.take_exactly.new.feed in
    rw (p.1, p.2) (Reads-same f.rest f.fed f.fault_count c.args.stream law.fed_nothing law.fed_joined c.args.feed.now last byte (mapped (λ bytes. get_or bytes 0 0) (exactly 1)) (Err c.in_err-take_exactly.field-0.0) byte-exactly
    (Reads-fault f.rest f.fed f.fault_count c.args.stream law.fed_nothing law.fed_joined c.args.feed.now last (exactly 1) (λ bytes. value (get_or bytes 0 0)) c.in_err-take_exactly.field-0.0 c.in_err-take_exactly.ensures))

pub returns : goal.returns
returns g c =
    let f = g.F.Feed in
    let law = g.met.F.Feed in
    let last = c.take_exactly.new.feed in
    Reads-same f.rest f.fed f.fault_count c.args.stream law.fed_nothing law.fed_joined c.args.feed.now last byte (mapped (λ bytes. get_or bytes 0 0) (exactly 1)) _ byte-exactly
    (Reads-map f.rest f.fed f.fault_count c.args.stream law.fed_nothing law.fed_joined c.args.feed.now last (exactly 1) (λ bytes. get_or bytes 0 0) c.take_exactly.new.into c.in_ok-take_exactly.ensures)
