use Rattle.std.proofs.Common.{◌<◌, length, sym, subst, arith}
use Rattle.std.specs.Prelude.{IfSome}
use Rattle.outside.specs.Feed.{IsFront}
use Rattle.cut_streams.specs.declared.cursor.Cursor.{Cursor}
use Rattle.io_elevator.specs.Elevator.{rest_of}
use Rattle.io_elevator.specs.Sound.{rest_at}
use Rattle.io_elevator.proofs.Streams.{cursor_is, lent_front, nothing_lent}
use Rattle.io_elevator.proofs.elevator.ElevatorFeed.lent.Goals as goal

pub returns-then-slot-len : goal.returns-then-slot-len
returns-then-slot-len g c = nothing_lent (rest_of g.W.World.files c.args.self.now c.args.stream)

pub returns : goal.returns
returns g c =
    let streams = c.args.self.now.scratch.now.streams.items in
    let below : c.args.stream < length streams = omega arith in
    let here = cursor_is streams c.args.stream c.index.result.now _ below c.index.ensures in
    subst (λ (x : Cursor). IfSome (rest_at g.W.World.files x) (IsFront c.lent.result.now)) (sym here)
    (lent_front g.W.World.files c.index.result.now.cursor c.lent.result.now c.lent.ensures.inside c.lent.ensures.bytes)
