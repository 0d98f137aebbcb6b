use Rattle.column_writer.proofs.Streams.{bytes_more}
use Rattle.column_writer.proofs.texts.joined.Goals as goal

pub loop-i-preserved : goal.loop-i-preserved
loop-i-preserved c =
    let l = c.loop-i in
    bytes_more c.args.texts.now l.i c.get.result.now l.bytes.items c.put.new.out.items c.get.ensures l.invariant c.in_ok-put.ensures.ok
