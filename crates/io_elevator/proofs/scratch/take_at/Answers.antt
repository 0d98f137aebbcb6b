use Rattle.std.proofs.Common.{sym, ap, ◌∙◌}
use Rattle.std.specs.Prelude.{slice_set}
use Rattle.held_ranges.specs.Moments.{moment}
use Rattle.cut_streams.specs.declared.cursor.Cursor.{Cursor}
use Rattle.io_elevator.specs.Sound.{cursors_of}
use Rattle.io_elevator.proofs.Doing.{went_at}
use Rattle.io_elevator.proofs.Streams.{at_set, cursors_set}
use Rattle.io_elevator.proofs.scratch.take_at.Goals as goal

pub returns-clause-went : goal.returns-clause-went
returns-clause-went g c =
    went_at g.W.World.files g.S.Store.reads (moment c.args.desk.now c.args.scratch.now.slots.items) (moment c.take.new.desk c.take.new.slots.items)
    c.args.scratch.now.streams.items c.args.slot c.args.chunk c.index_mut.result.now c.take.new.self _ c.take.result c.requires.stream c.requires.cut
    c.index_mut.ensures.value c.take.ensures.went

pub returns-clause-cursors : goal.returns-clause-cursors
returns-clause-cursors g c =
    let streams = c.args.scratch.now.streams.items in
    cursors_set streams c.args.slot c.take.new.self
    ∙ ap (λ (x : Cursor). slice_set (cursors_of streams) c.args.slot x) (sym (at_set streams c.args.slot c.take.new.self c.requires.stream))
