use Rattle.std.proofs.Common.{arith}
use Rattle.stripe_writer.proofs.Places.{body_more}
use Rattle.stripe_writer.proofs.joining.join_streams.Goals as goal

pub loop-i-preserved : goal.loop-i-preserved
loop-i-preserved c =
    let l = c.loop-i in
    body_more c.args.parts.now l.i c.index-parts-i.result l.body.items c.put_part.new.body.items (omega (arith, c.loop-i-test.true)) c.index-parts-i.is l.invariant c.in_ok-put_part.ensures
