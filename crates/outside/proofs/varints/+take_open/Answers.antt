use Rattle.std.proofs.Common.{length, ◌≡◌, ℕ, ◌-◌, ◌<◌, List, ◌++◌, arith, sym, take, false, eqb}
use Rattle.std.proofs.lemmas.Bool.{eqb-true}
use Rattle.std.proofs.lemmas.List.{length-take-le}
use Rattle.outside.specs.Reading.{mapped, value}
use Rattle.outside.specs.Varint.{open_varints}
use Rattle.outside.specs.ReadingLaws.{Reads-same, Reads-value, Reads-piece, Reads-placed, Reads-end}
use Rattle.outside.proofs.Varint.{open_varints-nothing, open_varints-ends}
use Rattle.outside.proofs.varints.+take_open.Goals as goal

nonempty : (out : List ℕ) → eqb (length out) 0 ≡ false → 0 < length out
nonempty out e = grind (arith)

pub returns-then-is_empty : goal.returns-then-is_empty
returns-then-is_empty g t c =
    let f = g.F.Feed in
    let law = g.met.F.Feed in
    let feed = c.args.feed.now in
    let out = c.args.out.now in
    let b = c.args.begun in
    let h : length out ≡ 0 = eqb-true (length out) 0 (sym c.if-is_empty.ensures) in
    Reads-same f.rest f.fed f.fault_count c.args.stream law.fed_nothing law.fed_joined feed feed (open_varints b.groups b.count (length out)) (value out) _ (λ bytes. open_varints-nothing b.groups b.count out bytes h)
    (Reads-value f.rest f.fed f.fault_count c.args.stream law.fed_nothing law.fed_joined feed out)

pub returns-then-len-eq0 : goal.returns-then-len-eq0
returns-then-len-eq0 g t c =
    let f = g.F.Feed in
    let out = c.args.out.now in
    let b = c.args.begun in
    let room = length c.split_at_mut-piece.result.0.now in
    let some : 0 < length out = nonempty out (sym c.if-is_empty.ensures) in
    let asked : 0 < room = omega (arith, c.split_at_mut-piece.ensures.front_len, c.min-room.ensures) in
    let entry = rw c.if-len-eq0.true at c.in_ok-len.ensures.entry in
    let ends = rw c.if-len-eq0.true at c.in_ok-len.ensures.ends in
    Reads-end f.rest f.fed f.fault_count c.args.stream g.met.F.Feed.fed_nothing g.met.F.Feed.fed_joined c.args.feed.now c.take.new.self (open_varints b.groups b.count (length out)) room
    entry c.in_ok-len.ensures.cause.later asked ends (open_varints-ends b.groups b.count (length out) b.short some)

pub returns : goal.returns
returns g t c =
    let f = g.F.Feed in
    let law = g.met.F.Feed in
    let b = c.args.begun in
    let new = c.absorb.new.begun in
    let absorbed = c.in_ok-ended.ensures.1 in
    let numbers = c.split_at_mut-rest.result.0.now in
    let back = c.split_at_mut-rest.result.1.now in
    let asked = length c.args.out.now in
    let same : length c.absorb.new.out ≡ asked = c.absorb.auto.out in
    let ended : length (take c.in_ok-ended.ended c.absorb.new.out) ≡ c.in_ok-ended.ended = length-take-le c.in_ok-ended.ended c.absorb.new.out c.in_ok-ended.ensures.0 in
    let left : length back ≡ length c.absorb.new.out - length (take c.in_ok-ended.ended c.absorb.new.out) = omega (arith, c.split_at_mut-rest.ensures.back_len) in
    Reads-piece f.rest f.fed f.fault_count c.args.stream law.fed_nothing law.fed_joined c.args.feed.now c.take.new.self c.take_open.new.feed (open_varints b.groups b.count asked)
    (mapped (λ others. numbers ++ others) (open_varints new.groups new.count (length back))) _ c.in_ok-len.len _
    c.in_ok-len.ensures.entry c.in_ok-len.ensures.cause.later c.in_ok-len.ensures.bytes
    (λ more. rw (← same, left, c.split_at_mut-rest.ensures.front) (absorbed.reads more))
    (Reads-placed f.rest f.fed f.fault_count c.args.stream law.fed_nothing law.fed_joined c.take.new.self c.take_open.new.feed (open_varints new.groups new.count (length back)) (λ others. numbers ++ others) c.take_open.new.out c.take_open.result c.take_open.ensures)
