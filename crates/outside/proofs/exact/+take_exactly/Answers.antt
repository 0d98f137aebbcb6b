use Rattle.std.proofs.Common.{length, ◌≡◌, ◌-◌, ◌≤◌, ◌++◌, arith, sym}
use Rattle.std.proofs.lemmas.Bool.{eqb-true}
use Rattle.outside.specs.Feed.{Took}
use Rattle.outside.specs.Reading.{exactly, mapped, value}
use Rattle.outside.specs.ReadingLaws.{Reads-same, Reads-value, Reads-piece, Reads-placed}
use Rattle.outside.proofs.Reading.{exactly-nothing, exactly-piece}
use Rattle.outside.proofs.exact.+take_exactly.Goals as goal

pub returns-then-is_empty : goal.returns-then-is_empty
returns-then-is_empty g t c =
    let f = g.F.Feed in
    let law = g.met.F.Feed in
    let feed = c.args.feed.now in
    let into = c.args.into.now in
    let h : length into ≡ 0 = eqb-true (length into) 0 (sym c.if-is_empty.ensures) in
    Reads-same f.rest f.fed f.fault_count c.args.stream law.fed_nothing law.fed_joined feed feed (exactly (length into)) (value into) _ (λ bytes. exactly-nothing into bytes h)
    (Reads-value f.rest f.fed f.fault_count c.args.stream law.fed_nothing law.fed_joined feed into)

pub returns : goal.returns
returns g t c =
    let f = g.F.Feed in
    let law = g.met.F.Feed in
    let first = c.args.feed.now in
    let between = c.take.new.self in
    let last = c.take_exactly.new.feed in
    let got = c.split_at_mut-rest.result.0.now in
    let back = c.split_at_mut-rest.result.1.now in
    let asked = length c.args.into.now in
    let took : Took (f.rest first c.args.stream) (f.rest between c.args.stream) got = rw c.split_at_mut-rest.ensures.front c.in_ok-len.ensures.bytes in
    let len : length back ≡ asked - length got = omega (arith, c.split_at_mut-rest.ensures.back_len, c.split_at_mut-rest.ensures.front_len, c.in_ok-len.ensures.room, c.take.auto.into) in
    let within : length got ≤ asked = omega (arith, c.split_at_mut-rest.ensures.front_len, c.in_ok-len.ensures.room) in
    Reads-piece f.rest f.fed f.fault_count c.args.stream law.fed_nothing law.fed_joined first between last (exactly asked) (mapped (λ others. got ++ others) (exactly (length back))) got c.in_ok-len.len _
    c.in_ok-len.ensures.entry c.in_ok-len.ensures.cause.later took
    (λ more. rw len (exactly-piece got asked more within))
    (Reads-placed f.rest f.fed f.fault_count c.args.stream law.fed_nothing law.fed_joined between last (exactly (length back)) (λ others. got ++ others) c.take_exactly.new.into c.take_exactly.result c.take_exactly.ensures)
