use Rattle.pool_model.specs.Buffer.{CanPublish, published}
use Rattle.pool_model.proofs.ProgramSteps.{change_made}
use Rattle.pool_model.proofs.pool.PlainPool.publish.Goals as goal

pub returns : goal.returns
returns c =
    change_made (Unit {0}) c.args.self.now c.take_buffer.new.self c.put_buffer.new.self c.args.header c.in-Some.buffer c.publish-outcome.new.self (CanPublish c.args.seat) (published c.args.seat) c.publish-outcome.result
    c.in-Some.ensures.taken c.take_buffer.ensures.left c.put_buffer.ensures c.publish-outcome.ensures
