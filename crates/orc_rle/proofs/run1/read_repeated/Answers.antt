use Rattle.std.proofs.Common.{◌≡◌, length, Ok, Err}
use Rattle.std.specs.Int.{w8, cast_signed}
use Rattle.std.proofs.lemmas.Result.{err_from_is_err_and}
use Rattle.outside.specs.Reading.{byte, mapped, value}
use Rattle.outside.specs.Varint.{varint}
use Rattle.outside.specs.ReadingLaws.{Reads-then, Reads-map, Reads-fault}
use Rattle.orc_integers.specs.Integers.{integer, ramp}
use Rattle.orc_rle.proofs.run1.read_repeated.Goals as goal

pub returns-in_err-base : goal.returns-in_err-base
returns-in_err-base g c =
    let f = g.F.Feed in
    let law = g.met.F.Feed in
    let a = c.args in
    let count = length a.into.now in
    let p = err_from_is_err_and c.from_residual-in_err-base.result c.from_residual-in_err-base.ensures.1 in
    let delta = c.in_ok-delta.delta in
    rw (p.1, p.2) (Reads-then f.rest f.fed f.fault_count a.stream law.fed_nothing law.fed_joined a.feed.now c.take_byte.new.feed c.take_varint.new.feed byte
    (λ delta. mapped (λ base. ramp (integer a.signed base) (cast_signed w8 delta) count) varint) delta (Err c.in_err-base.field-0.0) c.in_ok-delta.ensures
    (Reads-fault f.rest f.fed f.fault_count a.stream law.fed_nothing law.fed_joined c.take_byte.new.feed c.take_varint.new.feed varint (λ base. value (ramp (integer a.signed base) (cast_signed w8 delta) count)) c.in_err-base.field-0.0 c.in_err-base.ensures))

pub returns : goal.returns
returns g c =
    let f = g.F.Feed in
    let law = g.met.F.Feed in
    let a = c.args in
    let count = length a.into.now in
    let delta = c.in_ok-delta.delta in
    let is : c.write_ramp.new.into ≡ ramp (integer a.signed c.in_ok-base.base) (cast_signed w8 delta) count = rw (c.bits_of.ensures, c.widened.ensures) at c.write_ramp.ensures in
    rw is (Reads-then f.rest f.fed f.fault_count a.stream law.fed_nothing law.fed_joined a.feed.now c.take_byte.new.feed c.take_varint.new.feed byte
    (λ delta. mapped (λ base. ramp (integer a.signed base) (cast_signed w8 delta) count) varint) delta (Ok (ramp (integer a.signed c.in_ok-base.base) (cast_signed w8 delta) count)) c.in_ok-delta.ensures
    (Reads-map f.rest f.fed f.fault_count a.stream law.fed_nothing law.fed_joined c.take_byte.new.feed c.take_varint.new.feed varint (λ base. ramp (integer a.signed base) (cast_signed w8 delta) count) c.in_ok-base.base c.in_ok-base.ensures))
