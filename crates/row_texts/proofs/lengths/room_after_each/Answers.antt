use Rattle.std.proofs.Common.{◌<◌, unsigned_abs, pos, arith}
use Rattle.std.specs.Prelude.{slice_index_or}
use Rattle.std.proofs.lemmas.Int.{to_z-of_z}
use Rattle.row_texts.proofs.Rooms.{past_room}
use Rattle.row_texts.proofs.lengths.room_after_each.Goals as goal

pub returns-in_err-left : goal.returns-in_err-left
returns-in_err-left c =
    let l = c.loop-length in
    let less : l.left < unsigned_abs (slice_index_or c.args.lengths.now l.length-index (pos 0)) = grind (arith, to_z-of_z, c.in_err-left.ensures) in
    rw c.from_residual.ensures (past_room c.args.lengths.now l.length-index l.left c.args.room (omega arith) less l.invariant)
