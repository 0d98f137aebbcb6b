use Rattle.fragment_outcome.proofs.OnTheWay.{Wrote-none, Wrote-flushed, Wrote-unflushed}
use Rattle.fragment_outcome.proofs.writer.Writer.flush.Goals as goal

pub returns-then-self-clause-wrote : goal.returns-then-self-clause-wrote
returns-then-self-clause-wrote g c = Wrote-none _ _ _

pub returns-in-Ok-clause-wrote : goal.returns-in-Ok-clause-wrote
returns-in-Ok-clause-wrote g c = rw c.if-self.false (Wrote-flushed _ _ _ _ _ c.in-Ok.ensures.written c.in-Ok.ensures.cause.later)

pub returns-in-Err-clause-wrote : goal.returns-in-Err-clause-wrote
returns-in-Err-clause-wrote g c = rw c.if-self.false (Wrote-unflushed _ _ _ _ _ c.in-Err.ensures.front c.in-Err.ensures.cause)
