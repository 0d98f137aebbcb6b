use Rattle.std.proofs.Common.{◌<◌, length, arith}
use Rattle.std.proofs.lemmas.Nat.{pow_pos}
use Rattle.pool_rule.specs.declared.word_step.WordStep.TheVariants.{HeaderReleased}
use Rattle.buffer_pool.specs.Pools.{evicting_block, evicting_header, seat_id, sizes_of, view}
use Rattle.buffer_pool.proofs.Bids.{made_bids}
use Rattle.buffer_pool.proofs.Holds.{released_block}
use Rattle.buffer_pool.proofs.evictions.release.Goals as goal

pub invariant_of-seat : goal.invariant_of-seat
invariant_of-seat g c =
    record { no_bid = made_bids g.W.World.files (sizes_of c.args.pool.now) (seat_id c.args.seat.now) (HeaderReleased (evicting_header c.args.evicting) (evicting_block c.args.evicting) c.release.result) (view c.args.seat.now) c.release.new.seat.me.0 c.release.ensures.made tt c.args.seat.now.no_bid }

pub returns-clause-token : goal.returns-clause-token
returns-clause-token g c =
    let b = evicting_block c.args.evicting in
    let v = view c.args.seat.now in
    let wide = c.requires.seat.live.granted in
    let end = c.requires.token.block.inside in
    let size = pow_pos b.order in
    let within : b.place < length v.granted = omega (arith, wide, end, size) in
    record {
      block = c.requires.token.block;
      granted = released_block g.W.World.files (sizes_of c.args.pool.now) (seat_id c.args.seat.now) (evicting_header c.args.evicting) b c.release.result v c.release.new.seat.me.0 c.release.ensures.made within;
    }
