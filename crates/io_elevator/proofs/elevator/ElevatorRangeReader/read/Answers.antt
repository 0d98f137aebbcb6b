use Rattle.std.proofs.Common.{ℕ, refl, sym, subst, length}
use Rattle.held_ranges.specs.Moments.{keys_of}
use Rattle.cut_streams.specs.Visits.{VisitEachBy}
use Rattle.io_elevator.proofs.Doing.{did_by, fits_read}
use Rattle.io_elevator.proofs.elevator.ElevatorRangeReader.read.Goals as goal

pub returns-clause-went : goal.returns-clause-went
returns-clause-went g c =
    let w = c.visit_cuts.ensures.went in
    did_by g.W.World.files g.S.Store.reads c.args.self.now _ _ _ w refl refl refl
    (record { cache = refl; seat = refl; evictor = refl; store = refl; totals = refl; id = w.same.id }) refl refl
    (λ ds v. fits_read c.args.self.now.chunk c.args.file.number c.args.at (length c.visit_cuts.new.into) _ _ c.visit_cuts.result ds
    (subst (λ (n : ℕ). VisitEachBy 64 c.args.file.number c.args.at n c.args.self.now.chunk 0 (keys_of c.args.self.now.scratch.now.slots.items)
    c.visit_cuts.result ds (keys_of c.visit_cuts.new.slots.items)) (sym c.visit_cuts.ensures.len) v)
    refl)
