use Rattle.table_writer.proofs.Standing.{directs_next}
use Rattle.table_writer.proofs.opaque.push_direct.Goals as goal

pub loop-done-preserved : goal.loop-done-preserved
loop-done-preserved c =
    directs_next c.loop-done._done c.args.encodings.now.items c.loop-done.encodings.items c.push_encoding.new.encodings.items c.loop-done.invariant c.in_ok-push_encoding.ensures
