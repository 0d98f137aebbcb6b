use Rattle.std.specs.Prelude.{◌≡◌, ◌+◌, ◌*◌, ◌/◌, ◌%◌, ◌<◌, ℕ, List, length, slice_index, Some}
use Rattle.pool_model.specs.Content.{IsCell, IsRange}
use Rattle.pool_rule.specs.declared.view.Hold.TheVariants.{Pinned}
use Rattle.pool_rule.specs.Layout.{block_cells}
use Rattle.pool_rule.specs.Seats.{mark_at}
use Rattle.pool_rule.specs.Tables.{geometry_of, table_of}
use Rattle.pool_rule.specs.Words.{IsStill, view}
use Rattle.buffer_pool.specs.Made.{AreMade, byte_of, load_steps}
use Rattle.buffer_pool.proofs.reading.read_cells.Given as goal

abbrev pub invariant-loop-number : goal.invariant-loop-number
invariant-loop-number g l = record {
  seat : IsStill (table_of l.words) (geometry_of l.words) l.initial.seat l.seat;
  len : length l.into ≡ length l.initial.into;
  pinned : (mark_at (view l.seat) l.header).hold ≡ Pinned l.block (Some l.fn.key);
  made : (found : List ℕ) × (length found ≡ l.number)
      × AreMade g.W.World.files (geometry_of l.words) l.initial.seat.id (load_steps (l.block.place * block_cells (geometry_of l.words) + l.at / 8) found) (view l.initial.seat) (view l.seat)
      × ((i : ℕ) → i < length l.initial.into → l.at % 8 + i < 8 * l.number → slice_index l.into i ≡ byte_of found (l.at % 8 + i))
      × ((j : ℕ) → j < length found → IsCell g.W.World.files l.fn.key (l.at / 8 + j) (slice_index found j) × IsRange g.W.World.files l.fn.key);
}
