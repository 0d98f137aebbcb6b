use Rattle.std.proofs.Common.{◌∙◌}
use Rattle.fragment_outcome.proofs.OnTheWay.{Wrote-then, Wrote-as}
use Rattle.fragment_outcome.proofs.lines.put_count.Goals as goal

pub returns : goal.returns
returns g c = Wrote-then (Wrote-as c.put.ensures (c.as_bytes.ensures.value ∙ c.format.ensures.text)) c.put-2.ensures
