use Rattle.pool_model.specs.Buffer.{CanName, named}
use Rattle.pool_model.proofs.ProgramSteps.{change_made}
use Rattle.pool_model.proofs.pool.PlainPool.name.Goals as goal

pub returns : goal.returns
returns c =
    change_made ⊥ c.args.self.now c.take_buffer.new.self c.put_buffer.new.self c.args.header c.in-Some.buffer c.name-outcome.new.self (CanName c.args.setting.now c.args.seat c.args.key) (named c.args.key) c.name-outcome.result
    c.in-Some.ensures.taken c.take_buffer.ensures.left c.put_buffer.ensures c.name-outcome.ensures
