use Rattle.std.proofs.Common.{ℕ, ◌+◌, List, [], ◌∷◌}
use Rattle.pool_model.specs.declared.block.Block.{Block}
use Rattle.pool_model.specs.declared.buffer.BufferKey.{BufferKey}
use Rattle.buffer_pool.specs.Made.{cell_in, fill_steps}
use Rattle.buffer_pool.specs.Pools.{new_block, new_header, seat_id, sizes_of, view}
use Rattle.buffer_pool.proofs.Bids.{NoCounts, all_bids}
use Rattle.buffer_pool.proofs.buffers.fill.Goals as goal

no_counts : (header : ℕ) (b : Block) (key : BufferKey) (cell : ℕ → ℕ) (done : ℕ) (found : List ℕ) → NoCounts (fill_steps header b key cell done found)
no_counts header b key cell done [] = tt
no_counts header b key cell done (x ∷ xs) = (tt, no_counts header b key cell (done + 1) xs)

pub invariant_of-seat : goal.invariant_of-seat
invariant_of-seat g c =
    let new = c.args.new.now in
    let made = c.fill_cells.ensures.made in
    record {
      no_bid = all_bids g.W.World.files (sizes_of c.args.pool.now) (seat_id c.args.seat.now) (fill_steps (new_header new) (new_block new) c.as_buffer_key-key.result (cell_in c.args.bytes.now) 0 made.0) (view c.args.seat.now) c.fill_cells.new.seat.me.0 made.2
          (no_counts (new_header new) (new_block new) c.as_buffer_key-key.result (cell_in c.args.bytes.now) 0 made.0) c.args.seat.now.no_bid;
    }
