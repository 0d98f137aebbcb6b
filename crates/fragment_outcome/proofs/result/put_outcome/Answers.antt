use Rattle.fragment_outcome.proofs.OnTheWay.{Wrote-then, Wrote-as, Wrote-none}
use Rattle.fragment_outcome.proofs.result.put_outcome.Goals as goal

pub returns-in-Failure : goal.returns-in-Failure
returns-in-Failure g c = rw c.in-Failure.is (Wrote-then c.put.ensures (Wrote-then c.put_cause.ensures c.put-in-Failure.ensures))
