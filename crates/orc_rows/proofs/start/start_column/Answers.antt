use Rattle.orc_streams.specs.declared.stream_reader.OpenFault.TheVariants as open_fault
use Rattle.orc_rows.proofs.Starting.{starts, not_opened}
use Rattle.orc_rows.proofs.start.start_column.Goals as goal

pub returns-clause-starts : goal.returns-clause-starts
returns-clause-starts g c =
    let s = g.S.StreamReader in
    let m = g.met.S.StreamReader in
    starts s.did g.S.Feed.rest g.S.Feed.fed g.S.Feed.fault_count g.W.World.files c.args.file m.did_joined m.did_take c.in-Ok.field-0
    c.takes_leave_other_streams.ensures.column c.plans_are_apart.ensures c.args.index c.args.layout c.args.reader.now c.open_column.new.reader c.start.new.feed c.start.result
    c.in-Ok.ensures.opens c.in-Ok.ensures.told c.in-Ok.ensures.others (rw c.plan.ensures.exact at c.start.ensures.draws)

pub returns-in-Err-Read-clause-starts : goal.returns-in-Err-Read-clause-starts
returns-in-Err-Read-clause-starts g c =
    let s = g.S.StreamReader in
    let m = g.met.S.StreamReader in
    not_opened s.did g.S.Feed.rest g.S.Feed.fed g.S.Feed.fault_count g.W.World.files c.args.file m.did_joined m.did_take c.args.index c.args.layout c.args.reader.now c.open_column.new.reader
    (open_fault.Read c.in-Err-Read.failed) (rw c.in-Err-Read.field-0-is at c.in-Err-Read.ensures.opens) c.in-Err-Read.ensures.others

pub returns-in-Err-NoMemory-clause-starts : goal.returns-in-Err-NoMemory-clause-starts
returns-in-Err-NoMemory-clause-starts g c =
    let s = g.S.StreamReader in
    let m = g.met.S.StreamReader in
    not_opened s.did g.S.Feed.rest g.S.Feed.fed g.S.Feed.fault_count g.W.World.files c.args.file m.did_joined m.did_take c.args.index c.args.layout c.args.reader.now c.open_column.new.reader
    open_fault.NoMemory (rw c.in-Err-NoMemory.field-0-is at c.in-Err-NoMemory.ensures.opens) c.in-Err-NoMemory.ensures.others
