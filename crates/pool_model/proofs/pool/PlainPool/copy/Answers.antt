use Rattle.pool_model.specs.Buffer.{CanCopy, copied}
use Rattle.pool_model.proofs.ProgramSteps.{change_made}
use Rattle.pool_model.proofs.pool.PlainPool.copy.Goals as goal

pub returns : goal.returns
returns c =
    change_made ⊥ c.args.self.now c.take_buffer.new.self c.put_buffer.new.self c.args.header c.in-Some.buffer c.copy-outcome.new.self (CanCopy c.args.seat) copied c.copy-outcome.result
    c.in-Some.ensures.taken c.take_buffer.ensures.left c.put_buffer.ensures c.copy-outcome.ensures
