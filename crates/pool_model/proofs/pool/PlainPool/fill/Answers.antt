use Rattle.pool_model.specs.Buffer.{CanFill, filled}
use Rattle.pool_model.proofs.ProgramSteps.{change_made}
use Rattle.pool_model.proofs.pool.PlainPool.fill.Goals as goal

pub returns : goal.returns
returns c =
    change_made ⊥ c.args.self.now c.take_buffer.new.self c.put_buffer.new.self c.args.header c.in-Some.buffer c.fill-outcome.new.self (CanFill c.args.setting.now c.args.seat c.args.value) (filled c.args.value) c.fill-outcome.result
    c.in-Some.ensures.taken c.take_buffer.ensures.left c.put_buffer.ensures c.fill-outcome.ensures
