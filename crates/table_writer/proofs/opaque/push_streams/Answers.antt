use Rattle.table_writer.proofs.Standing.{streams_more}
use Rattle.table_writer.proofs.opaque.push_streams.Goals as goal

pub loop-i-preserved : goal.loop-i-preserved
loop-i-preserved c =
    streams_more c.args.number c.loop-i.i c.args.streams.now c.index-streams-i.result c.args.parts.now.items c.loop-i.parts.items c.push_copy.new.parts.items c.loop-i-test.true c.index-streams-i.is
    c.loop-i.invariant c.in_ok-push_copy.ensures
