use Rattle.std.proofs.Common.{◌-◌}
use Rattle.outside.specs.Reading.{value}
use Rattle.outside.specs.ReadingLaws.{Reads-same, Reads-value}
use Rattle.outside.specs.Lending.{skipped}
use Rattle.outside.specs.LendingLaws.{Reads-lost, skipped-none, skipped-more}
use Rattle.outside.proofs.exact.+skip_exactly.Goals as goal

pub returns-then-count-eq0 : goal.returns-then-count-eq0
returns-then-count-eq0 g t c =
    let f = g.F.Feed in
    let law = g.met.F.Feed in
    let feed = c.args.feed.now in
    rw c.if-count-eq0.true (Reads-same f.rest f.fed f.fault_count c.args.stream law.fed_nothing law.fed_joined feed feed (skipped 0) (value tt) _ skipped-none
    (Reads-value f.rest f.fed f.fault_count c.args.stream law.fed_nothing law.fed_joined feed tt))

pub returns : goal.returns
returns g t c =
    let f = g.F.Feed in
    let law = g.met.F.Feed in
    let first = c.args.feed.now in
    let between = c.skip.new.self in
    let last = c.skip_exactly.new.feed in
    let len = c.in_ok-len.len in
    let e = c.in_ok-len.ensures in
    Reads-lost f.rest f.fed f.fault_count c.args.stream law.fed_joined first between last (skipped c.args.count) (skipped (c.args.count - len)) len _
    e.entry e.cause.later (law.fed_lost first between _ c.args.stream e.entry)
    (λ whole h. skipped-more c.args.count len whole e.room h) c.skip_exactly.ensures
