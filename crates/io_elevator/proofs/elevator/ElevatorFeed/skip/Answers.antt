use Rattle.std.proofs.Common.{◌≤◌, [], length, refl, arith}
use Rattle.std.proofs.lemmas.List.{length-map}
use Rattle.io_elevator.specs.Books.{Books, cursor_at}
use Rattle.io_elevator.specs.Elevator.{books_of, desk_of}
use Rattle.io_elevator.specs.Laws.{same_desk}
use Rattle.io_elevator.specs.Sound.{StreamOf, cursors_of}
use Rattle.io_elevator.proofs.Doing.{fed_by, fits_past, lost_past}
use Rattle.io_elevator.proofs.Streams.{ends_by}
use Rattle.io_elevator.proofs.elevator.ElevatorFeed.skip.Goals as goal

pub returns-then-slot-len-clause-entry : goal.returns-then-slot-len-clause-entry
returns-then-slot-len-clause-entry g c =
    let books : Books = books_of c.args.self.now in
    let past : length books.cursors ≤ c.args.stream =
    omega (arith, length-map c.args.self.now.scratch.now.streams.items (λ (s : StreamOf). s.cursor)) in
    record {
      did = record {
        same = same_desk (desk_of c.args.self.now);
        scratch = refl;
        chunk = refl;
        deeds = [];
        fits = fits_past c.args.self.now.chunk c.args.stream books past;
        ran = refl;
      };
      lost = lost_past g.W.World.files c.args.self.now.chunk c.args.stream books past;
    }

pub returns-clause-ends : goal.returns-clause-ends
returns-clause-ends g c =
    ends_by g.W.World.files (cursor_at (cursors_of c.args.self.now.scratch.now.streams.items) c.args.stream) c.args.count c.skip_at.result
    c.skip_at.ensures.ends

pub returns-clause-entry : goal.returns-clause-entry
returns-clause-entry g c =
    let w = c.skip_at.ensures.went in
    fed_by g.W.World.files g.S.Store.reads c.args.self.now _ c.args.stream c.skip_at.result w refl refl refl
    (record { cache = refl; seat = refl; evictor = refl; store = refl; totals = refl; id = w.same.id }) refl refl c.skip_at.ensures.cursors
    c.skip_at.ensures.inside
