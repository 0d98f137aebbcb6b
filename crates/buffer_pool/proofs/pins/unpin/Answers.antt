use Rattle.pool_rule.specs.declared.word_step.WordStep.TheVariants.{Uncounted}
use Rattle.buffer_pool.specs.Pools.{pin_header, seat_id, sizes_of, view}
use Rattle.buffer_pool.proofs.Bids.{made_bids}
use Rattle.buffer_pool.proofs.pins.unpin.Goals as goal

pub invariant_of-seat : goal.invariant_of-seat
invariant_of-seat g c =
    record { no_bid = made_bids g.W.World.files (sizes_of c.args.pool.now) (seat_id c.args.seat.now) (Uncounted (pin_header c.args.pin) c.count_down.result) (view c.args.seat.now) c.count_down.new.seat.me.0 c.count_down.ensures.made tt c.args.seat.now.no_bid }
