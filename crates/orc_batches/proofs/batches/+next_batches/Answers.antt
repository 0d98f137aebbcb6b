use Rattle.std.proofs.Common.{◌∷◌}
use Rattle.orc_columns.specs.Reader.{RowsGoOn}
use Rattle.orc_batches.proofs.EachColumn.{each_empty, each_then, each_fails}
use Rattle.orc_batches.proofs.batches.+next_batches.Goals as goal

pub returns-in_default-clause-draws : goal.returns-in_default-clause-draws
returns-in_default-clause-draws g t c =
    let f = g.F.Feed in
    each_empty f.rest f.fed f.fault_count g.met.F.Feed.fed_nothing c.args.rows c.args.feed.now c.args.readers.now c.args.batches.now c.in_default.ensures.cases c.requires.beside

pub returns-in-Ok-clause-draws : goal.returns-in-Ok-clause-draws
returns-in-Ok-clause-draws g t c =
    let f = g.F.Feed in
    let is = c.in-Some.ensures.cases.0 in
    let apart = rw is at c.requires.apart in
    let fresh = rw is at c.requires.fresh in
    rw is (each_then f.rest f.fed f.fault_count g.met.F.Feed.fed_joined c.takes_in_turn_join.ensures.join c.takes_leave_other_streams.ensures.column c.takes_leave_other_streams.ensures.stream
    c.args.rows c.in-Some.reader.now c.next_batch.new.self c.in-Some.other_readers.now c.next_batches.new.readers
    c.args.feed.now c.next_batch.new.feed c.next_batches.new.feed c.next_batch.new.out c.next_batches.new.batches c.next_batches.result
    apart.0 (c.in-Ok.ensures.draws fresh.0) c.next_batches.ensures.draws)

pub returns-in-Err-clause-draws : goal.returns-in-Err-clause-draws
returns-in-Err-clause-draws g t c =
    let f = g.F.Feed in
    let is = c.in-Some.ensures.cases.0 in
    let fresh = rw is at c.requires.fresh in
    rw is (each_fails f.rest f.fed f.fault_count c.takes_in_turn_join.ensures.stop c.args.rows c.in-Some.reader.now c.in-Some.other_readers.now (c.next_batch.new.self ∷ c.in-Some.other_readers.now)
    c.args.feed.now c.next_batch.new.feed (RowsGoOn c.in-Some.reader.now c.next_batch.new.self) c.in-Err.fault (c.in-Err.ensures.draws fresh.0))
