use Rattle.table_writer.proofs.Standing.{list_more}
use Rattle.table_writer.proofs.listing.list_streams.Goals as goal

pub loop-i-preserved : goal.loop-i-preserved
loop-i-preserved c =
    list_more c.args.parts.now c.loop-i.i c.index-parts-i.result c.loop-i.streams.items c.list_stream.new.streams.items c.loop-i-test.true c.index-parts-i.is c.loop-i.invariant
    c.in_ok-list_stream.ensures
