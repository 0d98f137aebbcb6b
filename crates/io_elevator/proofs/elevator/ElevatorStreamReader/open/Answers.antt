use Rattle.std.proofs.Common.{◌<◌, length, refl, ap, ◌∙◌, arith}
use Rattle.std.specs.Prelude.{slice_set}
use Rattle.outside.specs.Files.{range_of}
use Rattle.cut_streams.specs.declared.cursor.Cursor.{Cursor}
use Rattle.io_elevator.specs.Elevator.{desk_of}
use Rattle.io_elevator.specs.Laws.{same_desk}
use Rattle.io_elevator.specs.Sound.{StreamOf, cursors_of, rest_at}
use Rattle.io_elevator.proofs.Doing.{fits_open}
use Rattle.io_elevator.proofs.Streams.{at_other, at_set, cursors_set, opened_rest, opened_size}
use Rattle.io_elevator.proofs.elevator.ElevatorStreamReader.open.Goals as goal

pub returns-clause-bytes : goal.returns-clause-bytes
returns-clause-bytes g c = λ bytes h.
    let below : c.args.stream < length c.args.self.now.scratch.now.streams.items = omega (arith, c.requires.few, c.args.self.now.streams) in
    opened_rest g.W.World.files c.args.file c.args.span.at c.args.span.len _ bytes
    (at_set c.args.self.now.scratch.now.streams.items c.args.stream c.open.new.self below ∙ ap (λ (s : StreamOf). s.cursor) c.open.ensures) h

pub returns-clause-size : goal.returns-clause-size
returns-clause-size g c = λ bytes e.
    let below : c.args.stream < length c.args.self.now.scratch.now.streams.items = omega (arith, c.requires.few, c.args.self.now.streams) in
    opened_size g.W.World.files c.args.file c.args.span.at c.args.span.len _ bytes
    (at_set c.args.self.now.scratch.now.streams.items c.args.stream c.open.new.self below ∙ ap (λ (s : StreamOf). s.cursor) c.open.ensures)
    c.requires.readable.is_file c.requires.in_range e

pub returns-clause-others : goal.returns-clause-others
returns-clause-others g c = λ other apart.
    ap (λ (x : Cursor). rest_at g.W.World.files x) (at_other c.args.self.now.scratch.now.streams.items c.args.stream other c.open.new.self apart)

pub returns-clause-acts : goal.returns-clause-acts
returns-clause-acts g c =
    let streams = c.args.self.now.scratch.now.streams.items in
    record {
      same = same_desk (desk_of c.args.self.now);
      scratch = refl;
      chunk = refl;
      deeds = _;
      fits = fits_open c.args.self.now.chunk c.args.stream (range_of c.args.file c.args.span.at c.args.span.len) _ _ refl
          (cursors_set streams c.args.stream c.open.new.self
          ∙ ap (λ (s : StreamOf). slice_set (cursors_of streams) c.args.stream s.cursor) c.open.ensures);
      ran = refl;
    }
