use Rattle.buffer_pool.specs.Pools.{seat_id, sizes_of, view}
use Rattle.buffer_pool.proofs.Bids.{made_bids}
use Rattle.buffer_pool.proofs.touches.tick.Goals as goal

pub invariant_of-seat : goal.invariant_of-seat
invariant_of-seat g c =
    record { no_bid = made_bids g.W.World.files (sizes_of c.args.pool.now) (seat_id c.args.seat.now) _ (view c.args.seat.now) c.increase.new.seat.me.0 c.increase.ensures.made tt c.args.seat.now.no_bid }
