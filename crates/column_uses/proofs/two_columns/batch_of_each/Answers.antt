use Rattle.column_uses.proofs.Together.{takes_of_both, both_if}
use Rattle.column_uses.proofs.two_columns.batch_of_each.Goals as goal

pub returns-clause-takes : goal.returns-clause-takes
returns-clause-takes g c =
    let f = g.F.Feed in
    let law = c.takes_in_turn_join.ensures in
    takes_of_both f.rest f.fed f.fault_count g.met.F.Feed.fed_joined law.join law.stop c.args.one.now.plan c.args.two.now.plan c.args.feed.now c.next_batch.new.feed c.next_batch-2.new.feed
    _ _ _ _ _ _ (c.in_ok-next_batch.ensures.draws c.requires.fresh.0) (c.next_batch-2.ensures.draws c.requires.fresh.1)

pub returns-clause-goes : goal.returns-clause-goes
returns-clause-goes g c =
    let f = g.F.Feed in
    let law = c.takes_in_turn_join.ensures in
    both_if f.rest f.fed f.fault_count g.met.F.Feed.fed_joined law.join law.stop c.takes_leave_other_streams.ensures.column c.args.one.now c.next_batch.new.self c.args.two.now c.next_batch-2.new.self
    c.args.feed.now c.next_batch.new.feed c.next_batch-2.new.feed c.args.rows (record { one = c.next_batch.new.out; two = c.next_batch-2.new.out }) c.next_batch-2.result c.requires.apart
    (c.in_ok-next_batch.ensures.draws c.requires.fresh.0) (c.next_batch-2.ensures.draws c.requires.fresh.1)
