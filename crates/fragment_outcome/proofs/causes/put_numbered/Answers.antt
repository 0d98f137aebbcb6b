use Rattle.std.proofs.Common.{◌∙◌}
use Rattle.fragment_outcome.proofs.OnTheWay.{Wrote-then, Wrote-as}
use Rattle.fragment_outcome.proofs.causes.put_numbered.Goals as goal

pub returns : goal.returns
returns g c = Wrote-then (Wrote-as c.put.ensures c.as_bytes.ensures.value) (Wrote-as c.put-2.ensures (c.as_bytes-2.ensures.value ∙ c.format.ensures.text))
