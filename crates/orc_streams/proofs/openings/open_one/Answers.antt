use Rattle.orc_streams.proofs.Opening.{opens_none, opens_by}
use Rattle.orc_streams.proofs.openings.open_one.Goals as goal

pub returns-in-Some : goal.returns-in-Some
returns-in-Some g c =
    let s = g.S.StreamReader in
    rw c.in-Some.is (opens_by s.did g.S.Feed.rest g.S.Feed.fault_count g.W.World.files c.args.file c.args.opening.stream c.in-Some.span
    c.args.reader.now c.open.new.self c.open.ensures.others c.open.result c.open.ensures.acts c.open.ensures.bytes c.open.ensures.size c.open.ensures.cause)

pub returns-in-None : goal.returns-in-None
returns-in-None g c =
    let s = g.S.StreamReader in
    rw c.in-None.is (opens_none s.did g.S.Feed.rest g.S.Feed.fault_count g.W.World.files c.args.file c.args.reader.now _ (g.met.S.StreamReader.did_nothing c.args.reader.now))
