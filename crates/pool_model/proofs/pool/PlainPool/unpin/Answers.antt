use Rattle.pool_model.specs.Buffer.{CanUnpin, unpinned}
use Rattle.pool_model.proofs.ProgramSteps.{change_made}
use Rattle.pool_model.proofs.pool.PlainPool.unpin.Goals as goal

pub returns : goal.returns
returns c =
    change_made ⊥ c.args.self.now c.take_buffer.new.self c.put_buffer.new.self c.args.header c.in-Some.buffer c.unpin-outcome.new.self (CanUnpin c.args.seat) (unpinned c.args.seat) c.unpin-outcome.result
    c.in-Some.ensures.taken c.take_buffer.ensures.left c.put_buffer.ensures c.unpin-outcome.ensures
