use Rattle.std.proofs.Common.{ℕ, ◌+◌, ◌*◌, ◌/◌, ◌<◌, List, [], ◌∷◌, length, subst}
use Rattle.std.specs.Prelude.{slice_index}
use Rattle.pool_model.specs.declared.buffer.BufferKey.{BufferKey}
use Rattle.pool_model.specs.Content.{IsCell, IsRange}
use Rattle.pool_rule.specs.Layout.{block_cells}
use Rattle.buffer_pool.specs.Made.{load_steps}
use Rattle.buffer_pool.specs.Pools.{buffer_key, pin_block, pin_key, seat_id, sizes_of, view}
use Rattle.buffer_pool.proofs.Bids.{NoCounts, all_bids}
use Rattle.buffer_pool.proofs.Contents.{content_is}
use Rattle.buffer_pool.proofs.reading.read.Goals as goal

no_counts : (cell : ℕ) (found : List ℕ) → NoCounts (load_steps cell found)
no_counts cell [] = tt
no_counts cell (x ∷ xs) = (tt, no_counts (cell + 1) xs)

pub invariant_of-seat : goal.invariant_of-seat
invariant_of-seat g c =
    let made = c.read_cells.ensures.made in
    let geometry = sizes_of c.args.pool.now in
    let cell : ℕ = (pin_block c.args.pin.now).place * block_cells geometry + c.args.at / 8 in
    record { no_bid = all_bids g.W.World.files geometry (seat_id c.args.seat.now) (load_steps cell made.0) (view c.args.seat.now) c.read_cells.new.seat.me.0 made.2 (no_counts cell made.0) c.args.seat.now.no_bid }

pub returns-clause-content : goal.returns-clause-content
returns-clause-content g c =
    let made = c.read_cells.ensures.made in
    let key = buffer_key (pin_key c.args.pin.now) in
    let key_is = c.as_buffer_key-key.ensures in
    let P : BufferKey → Type 0 = λ k. (j : ℕ) → j < length made.0 → IsCell g.W.World.files k (c.args.at / 8 + j) (slice_index made.0 j) × IsRange g.W.World.files k in
    content_is g.W.World.files key g.W.World.are_files c.args.at (length c.args.into.now) c.read_cells.new.into made.0 c.requires.range c.read_cells.ensures.len made.1 made.3 (subst P key_is made.4)
