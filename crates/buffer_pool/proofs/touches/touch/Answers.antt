use Rattle.buffer_pool.specs.Bids.{HasNoBid}
use Rattle.buffer_pool.specs.Pools.{seat_id, sizes_of, view}
use Rattle.buffer_pool.proofs.Bids.{made_bids}
use Rattle.buffer_pool.proofs.touches.touch.Goals as goal

pub invariant_of-seat : goal.invariant_of-seat
invariant_of-seat g c =
    let first : HasNoBid c.increase.new.seat.me.0 = made_bids g.W.World.files (sizes_of c.args.pool.now) (seat_id c.args.seat.now) _ (view c.args.seat.now) c.increase.new.seat.me.0 c.increase.ensures.made tt c.args.seat.now.no_bid in
    record { no_bid = made_bids g.W.World.files (sizes_of c.args.pool.now) c.increase.new.seat.id _ c.increase.new.seat.me.0 c.raise.new.seat.me.0 c.raise.ensures.made tt first }
