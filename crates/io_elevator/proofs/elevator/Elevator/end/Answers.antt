use Rattle.std.proofs.Common.{◌≡◌, refl, sym, ap, ◌∙◌}
use Rattle.std.specs.Prelude.{List}
use Rattle.cut_streams.specs.declared.cursor.Cursor.{Cursor}
use Rattle.cut_streams.specs.Streams.{closed}
use Rattle.io_elevator.specs.Books.{cursor_at}
use Rattle.io_elevator.specs.Sound.{StreamOf, cursors_of, rest_at}
use Rattle.io_elevator.proofs.Doing.{did_by, fits_close}
use Rattle.io_elevator.proofs.Streams.{closed_at, closed_rest, cursors_shut}
use Rattle.io_elevator.proofs.elevator.Elevator.end.Goals as goal

pub returns-clause-left : goal.returns-clause-left
returns-clause-left g c = λ stream bytes e.
    let streams = c.args.self.now.scratch.now.streams.items in
    let none : cursor_at (cursors_of c.close_scratch.new.scratch.streams.items) stream ≡ closed =
    ap (λ (ss : List StreamOf). cursor_at (cursors_of ss) stream) c.close_scratch.ensures.closed
    ∙ ap (λ (cs : List Cursor). cursor_at cs stream) (cursors_shut streams) ∙ closed_at (cursors_of streams) stream in
    closed_rest g.W.World.files bytes (sym (ap (λ (x : Cursor). rest_at g.W.World.files x) none) ∙ e)

pub returns-clause-acts : goal.returns-clause-acts
returns-clause-acts g c =
    let w = c.close_scratch.ensures.went in
    did_by g.W.World.files g.S.Store.reads c.args.self.now _ _ _ w refl refl refl
    (record { cache = refl; seat = refl; evictor = refl; store = refl; totals = refl; id = w.same.id }) refl refl
    (λ ds t. fits_close c.args.self.now.chunk _ _ ds t.0 t.1
    (ap (λ (ss : List StreamOf). cursors_of ss) c.close_scratch.ensures.closed ∙ cursors_shut c.args.self.now.scratch.now.streams.items))
