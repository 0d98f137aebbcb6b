use Rattle.std.proofs.Common.{◌+◌}
use Rattle.orc_streams.specs.Openings.{spans_of, openings_at, spans_from}
use Rattle.orc_streams.proofs.Opening.{opens_then, opens_stopped, AreNone-column}
use Rattle.orc_streams.proofs.openings.+open_from.Goals as goal

pub returns-in-Ok : goal.returns-in-Ok
returns-in-Ok g t c =
    let layout = c.in-Some.layout.now in
    let others = c.in-Some.others.now in
    rw c.in-Some.ensures.cases.0 (opens_then g.S.StreamReader.did g.S.Feed.rest g.S.Feed.fault_count g.W.World.files c.args.file
    (spans_of (openings_at c.args.index layout)) (spans_from (c.args.index + 1) others)
    c.args.reader.now c.open_column.new.reader c.open_from.new.reader c.in-Ok.field-0 c.open_from.result
    (g.met.S.StreamReader.did_joined c.args.reader.now c.open_column.new.reader c.open_from.new.reader)
    (AreNone-column c.args.index layout others) c.in-Ok.ensures.opens c.open_from.ensures)

pub returns-in-Err : goal.returns-in-Err
returns-in-Err g t c =
    let layout = c.in-Some.layout.now in
    rw c.in-Some.ensures.cases.0 (opens_stopped g.S.StreamReader.did g.S.Feed.rest g.S.Feed.fault_count g.W.World.files c.args.file
    (spans_of (openings_at c.args.index layout)) (spans_from (c.args.index + 1) c.in-Some.others.now)
    c.args.reader.now c.open_column.new.reader c.in-Err.fault c.in-Err.ensures.opens)
