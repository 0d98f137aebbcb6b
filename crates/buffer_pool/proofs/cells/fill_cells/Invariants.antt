use Rattle.std.specs.Prelude.{◌≡◌, ℕ, List, length, Some}
use Rattle.pool_rule.specs.declared.view.Claim.TheVariants.{Fresh}
use Rattle.pool_rule.specs.Seats.{mark_at}
use Rattle.pool_rule.specs.Tables.{geometry_of, table_of}
use Rattle.pool_rule.specs.Words.{IsStill, view}
use Rattle.buffer_pool.specs.Made.{AreMade, cell_in, fill_steps}
use Rattle.buffer_pool.proofs.cells.fill_cells.Given as goal

abbrev pub invariant-loop-done : goal.invariant-loop-done
invariant-loop-done g l = record {
  seat : IsStill (table_of l.words) (geometry_of l.words) l.initial.seat l.seat;
  claim : (mark_at (view l.seat) l.header).claim ≡ Fresh l.block (Some l.key) l.done;
  made : (found : List ℕ) × (length found ≡ l.done) × AreMade g.W.World.files (geometry_of l.words) l.initial.seat.id (fill_steps l.header l.block l.key (cell_in l.bytes) 0 found) (view l.initial.seat) (view l.seat);
}
