use Rattle.std.proofs.Common.{sym, take, ◌≡◌, []}
use Rattle.fragment_outcome.proofs.OnTheWay.{Wrote-kept, Wrote-to, Wrote-lost, Wrote-passed, Wrote-failed}
use Rattle.fragment_outcome.proofs.writer.Writer.put_alone.Goals as goal

pub returns-then-bytes-self : goal.returns-then-bytes-self
returns-then-bytes-self g c = Wrote-to (Wrote-kept _ _ _ _) (sym c.keep.ensures)

pub returns-then-self : goal.returns-then-self
returns-then-self g c = rw c.if-self.true (Wrote-lost _ _ _)

pub returns-in-Ok : goal.returns-in-Ok
returns-in-Ok g c =
    let none : take c.args.self.now.len c.args.self.now.buffer ≡ [] = rw c.if-self.false at c.requires in
    rw (c.if-self.false, none) (Wrote-passed _ _ _ _ _ c.in-Ok.ensures.written c.in-Ok.ensures.cause.later)

pub returns-in-Err : goal.returns-in-Err
returns-in-Err g c =
    let none : take c.args.self.now.len c.args.self.now.buffer ≡ [] = rw c.if-self.false at c.requires in
    rw (c.if-self.false, none) (Wrote-failed _ _ _ _ _ c.in-Err.ensures.front c.in-Err.ensures.cause)
