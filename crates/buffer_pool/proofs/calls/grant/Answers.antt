use Rattle.std.proofs.Common.{◌≢◌, ℕ, ◌/◌, ◌<◌, length, arith}
use Rattle.std.specs.Prelude.{Option, Result, Ok, Err, OnOk, IfErr}
use Rattle.std.proofs.lemmas.Nat.{pow_pos}
use Rattle.pool_model.specs.declared.block.Block.{Block}
use Rattle.pool_model.specs.Content.{Files}
use Rattle.pool_rule.specs.declared.geometry.Geometry.{Geometry}
use Rattle.pool_rule.specs.declared.geometry.WordName.TheVariants.{Arena}
use Rattle.pool_rule.specs.declared.lost.LostGrant.{LostGrant}
use Rattle.pool_rule.specs.declared.view.View.{View}
use Rattle.pool_rule.specs.declared.word_step.WordStep.TheVariants.{Granted, Missed}
use Rattle.pool_rule.specs.WordSteps.{IsMade}
use Rattle.buffer_pool.specs.Bids.{HasNoBid}
use Rattle.buffer_pool.specs.Pools.{block_at, seat_id, sizes_of, view}
use Rattle.buffer_pool.proofs.Bids.{made_bids}
use Rattle.buffer_pool.proofs.Holds.{granted_block}
use Rattle.buffer_pool.proofs.calls.grant.Goals as goal

bids_after : (files : Option Files) (g : Geometry) (id : ℕ) (r : Result (Unit {0}) LostGrant) (b : Block) (seen : ℕ) (v w : View) → OnOk r (IsMade files g id (Granted b seen) v w) → IfErr r (λ e. (e.saw ≢ seen) × IsMade files g id (Missed (Arena (b.place / 64)) e.saw) v w) → HasNoBid v → HasNoBid w
bids_after files g id (Ok u) b seen v w ok err h = made_bids files g id (Granted b seen) v w ok tt h
bids_after files g id (Err e) b seen v w ok err h = made_bids files g id (Missed (Arena (b.place / 64)) e.saw) v w err.1 tt h

pub invariant_of-seat : goal.invariant_of-seat
invariant_of-seat g c =
    record { no_bid = bids_after g.W.World.files (sizes_of c.args.pool.now) (seat_id c.args.seat.now) c.take_block.result (block_at c.args.place c.args.order) c.args.seen (view c.args.seat.now) c.take_block.new.seat.me.0 c.take_block.ensures.ok c.take_block.ensures.err c.args.seat.now.no_bid }

pub returns-in-Ok-clause-token : goal.returns-in-Ok-clause-token
returns-in-Ok-clause-token g c =
    let b = block_at c.args.place c.args.order in
    let v = view c.args.seat.now in
    let wide = c.requires.seat.live.granted in
    let end = c.requires.block.inside in
    let size = pow_pos c.args.order in
    let within : b.place < length v.granted = omega (arith, wide, end, size) in
    record {
      block = c.requires.block;
      granted = granted_block g.W.World.files (sizes_of c.args.pool.now) (seat_id c.args.seat.now) b c.args.seen v _ c.in-Ok.ensures.ok within;
    }
