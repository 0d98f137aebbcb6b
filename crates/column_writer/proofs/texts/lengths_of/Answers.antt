use Rattle.column_writer.proofs.Streams.{lengths_more}
use Rattle.column_writer.proofs.texts.lengths_of.Goals as goal

pub loop-i-preserved : goal.loop-i-preserved
loop-i-preserved c =
    let l = c.loop-i in
    lengths_more c.args.texts.now l.i c.get.result.now l.lens.items c.push_len.new.lens.items c.get.ensures l.invariant c.in_ok-push_len.ensures
