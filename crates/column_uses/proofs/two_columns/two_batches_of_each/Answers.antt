use Rattle.column_uses.proofs.Together.{takes_twice, go_on_if}
use Rattle.column_uses.proofs.two_columns.two_batches_of_each.Goals as goal

pub batch_of_each-requires-2-clause-apart : goal.batch_of_each-requires-2-clause-apart
batch_of_each-requires-2-clause-apart g c =
    let same = c.batch_of_each.ensures.plans in
    rw (same.0, same.1) c.requires.apart

pub returns-clause-takes : goal.returns-clause-takes
returns-clause-takes g c =
    let f = g.F.Feed in
    let law = c.takes_in_turn_join.ensures in
    let same = c.batch_of_each.ensures.plans in
    takes_twice f.rest f.fed f.fault_count g.met.F.Feed.fed_joined law.join law.stop c.args.one.now.plan c.batch_of_each.new.one.plan c.args.two.now.plan c.batch_of_each.new.two.plan
    c.args.feed.now c.batch_of_each.new.feed c.batch_of_each-2.new.feed same.0 same.1 c.batch_of_each.ensures.takes c.batch_of_each-2.ensures.takes

pub returns-clause-goes : goal.returns-clause-goes
returns-clause-goes g c =
    let f = g.F.Feed in
    let law = c.takes_in_turn_join.ensures in
    let same = c.batch_of_each.ensures.plans in
    go_on_if f.rest f.fed f.fault_count g.met.F.Feed.fed_joined law.join law.stop c.args.one.now c.batch_of_each.new.one c.batch_of_each-2.new.one c.args.two.now c.batch_of_each.new.two c.batch_of_each-2.new.two
    c.args.feed.now c.batch_of_each.new.feed c.batch_of_each-2.new.feed c.batch_of_each.new.out c.batch_of_each-2.new.out c.batch_of_each-2.result same.0 same.1 c.in_ok-batch_of_each.ensures.goes c.batch_of_each-2.ensures.goes
