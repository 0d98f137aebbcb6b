use Rattle.fragment_outcome.proofs.OnTheWay.{Wrote-then}
use Rattle.fragment_outcome.proofs.lines.put_sum.Goals as goal

pub returns-in-Some : goal.returns-in-Some
returns-in-Some g c = rw c.in-Some.is (Wrote-then c.put-in-Some.ensures (Wrote-then c.put_number.ensures c.put-in-Some-2.ensures))
