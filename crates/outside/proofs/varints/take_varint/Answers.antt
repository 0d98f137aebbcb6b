use Rattle.std.proofs.Common.{get_or, Err}
use Rattle.std.proofs.lemmas.Result.{err_from_is_err_and}
use Rattle.outside.specs.Reading.{mapped, value}
use Rattle.outside.specs.Varint.{varint, varints}
use Rattle.outside.proofs.Varint.{varint-varints}
use Rattle.outside.specs.ReadingLaws.{Reads-same, Reads-map, Reads-fault}
use Rattle.outside.proofs.varints.take_varint.Goals as goal

pub returns-in_err-take_varints : goal.returns-in_err-take_varints
returns-in_err-take_varints g c =
    let f = g.F.Feed in
    let law = g.met.F.Feed in
    let p = err_from_is_err_and c.from_residual.result c.from_residual.ensures.1 in
    let last = c.take_varints.new.feed in
    rw (p.1, p.2) (Reads-same f.rest f.fed f.fault_count c.args.stream law.fed_nothing law.fed_joined c.args.feed.now last varint (mapped (λ numbers. get_or numbers 0 0) (varints 1)) (Err c.in_err-take_varints.field-0.0) varint-varints
    (Reads-fault f.rest f.fed f.fault_count c.args.stream law.fed_nothing law.fed_joined c.args.feed.now last (varints 1) (λ numbers. value (get_or numbers 0 0)) c.in_err-take_varints.field-0.0 c.in_err-take_varints.ensures))

pub returns : goal.returns
returns g c =
    let f = g.F.Feed in
    let law = g.met.F.Feed in
    let last = c.take_varints.new.feed in
    Reads-same f.rest f.fed f.fault_count c.args.stream law.fed_nothing law.fed_joined c.args.feed.now last varint (mapped (λ numbers. get_or numbers 0 0) (varints 1)) _ varint-varints
    (Reads-map f.rest f.fed f.fault_count c.args.stream law.fed_nothing law.fed_joined c.args.feed.now last (varints 1) (λ numbers. get_or numbers 0 0) c.take_varints.new.out c.in_ok-take_varints.ensures)
