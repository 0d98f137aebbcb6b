use Rattle.orc_streams.specs.Openings.{the_stream, spans_of}
use Rattle.orc_streams.proofs.Opening.{opens_then, opens_stopped, AreNone-first}
use Rattle.orc_streams.proofs.openings.+open_each.Goals as goal

pub returns-in-Ok : goal.returns-in-Ok
returns-in-Ok g t c =
    let opening = c.in-Some.opening.now in
    let others = c.in-Some.others.now in
    let is = c.in-Some.ensures.cases.0 in
    let rise = rw is at c.requires.rise in
    rw is (opens_then g.S.StreamReader.did g.S.Feed.rest g.S.Feed.fault_count g.W.World.files c.args.file
    (the_stream opening.stream opening.span) (spans_of others) c.args.reader.now c.open_one.new.reader c.open_each.new.reader
    c.in-Ok.field-0 c.open_each.result (g.met.S.StreamReader.did_joined c.args.reader.now c.open_one.new.reader c.open_each.new.reader)
    (AreNone-first opening others rise.1) c.in-Ok.ensures c.open_each.ensures)

pub returns-in-Err : goal.returns-in-Err
returns-in-Err g t c =
    let opening = c.in-Some.opening.now in
    rw c.in-Some.ensures.cases.0 (opens_stopped g.S.StreamReader.did g.S.Feed.rest g.S.Feed.fault_count g.W.World.files c.args.file
    (the_stream opening.stream opening.span) (spans_of c.in-Some.others.now) c.args.reader.now c.open_one.new.reader c.in-Err.fault c.in-Err.ensures)
