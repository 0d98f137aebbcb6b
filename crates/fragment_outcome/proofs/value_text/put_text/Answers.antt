use Rattle.fragment_outcome.proofs.OnTheWay.{Wrote-then}
use Rattle.fragment_outcome.proofs.value_text.put_text.Goals as goal

pub returns : goal.returns
returns g c = Wrote-then c.put.ensures (Wrote-then c.put_escaped.ensures c.put-2.ensures)
