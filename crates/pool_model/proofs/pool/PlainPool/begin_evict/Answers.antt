use Rattle.pool_model.specs.Buffer.{IsIdle, evicting}
use Rattle.pool_model.proofs.ProgramSteps.{change_made}
use Rattle.pool_model.proofs.pool.PlainPool.begin_evict.Goals as goal

pub returns : goal.returns
returns c =
    change_made ⊥ c.args.self.now c.take_buffer.new.self c.put_buffer.new.self c.args.header c.in-Some.buffer c.begin_evict-outcome.new.self IsIdle (evicting c.args.seat) c.begin_evict-outcome.result
    c.in-Some.ensures.taken c.take_buffer.ensures.left c.put_buffer.ensures c.begin_evict-outcome.ensures
