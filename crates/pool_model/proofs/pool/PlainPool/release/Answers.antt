use Rattle.std.proofs.lemmas.Bool.{iff_false}
use Rattle.pool_model.specs.Buffer.{CanRelease}
use Rattle.pool_model.proofs.ProgramSteps.{refused_back}
use Rattle.pool_model.proofs.pool.PlainPool.release.Goals as goal

pub returns-then-not-can_release : goal.returns-then-not-can_release
returns-then-not-can_release c =
    refused_back c.args.self.now c.take_buffer.new.self c.put_buffer.new.self c.args.header c.in-Some.buffer (CanRelease c.args.seat)
    c.in-Some.ensures.taken c.take_buffer.ensures.left c.put_buffer.ensures (iff_false c.can_release.ensures c.if-not-can_release.true)
