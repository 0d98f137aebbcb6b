use Rattle.std.proofs.Common.{sym}
use Rattle.fragment_outcome.proofs.OnTheWay.{Wrote-kept, Wrote-to, Wrote-then}
use Rattle.fragment_outcome.proofs.writer.Writer.put.Goals as goal

pub returns-then-bytes-self : goal.returns-then-bytes-self
returns-then-bytes-self g c = Wrote-to (Wrote-kept _ _ _ _) (sym c.keep.ensures)

pub returns : goal.returns
returns g c = Wrote-then c.flush.ensures.wrote c.put_alone.ensures
