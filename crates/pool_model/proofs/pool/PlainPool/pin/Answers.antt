use Rattle.pool_model.specs.Buffer.{CanPin, pinned}
use Rattle.pool_model.proofs.ProgramSteps.{change_made}
use Rattle.pool_model.proofs.pool.PlainPool.pin.Goals as goal

pub returns : goal.returns
returns c =
    change_made (Unit {0}) c.args.self.now c.take_buffer.new.self c.put_buffer.new.self c.args.header c.in-Some.buffer c.pin-outcome.new.self (CanPin c.args.seat) (pinned c.args.seat) c.pin-outcome.result
    c.in-Some.ensures.taken c.take_buffer.ensures.left c.put_buffer.ensures c.pin-outcome.ensures
