use Rattle.std.proofs.Common.{sym, subst}
use Rattle.buffer_pool.specs.Bids.{HasNoBid}
use Rattle.buffer_pool.specs.Pools.{view}
use Rattle.buffer_pool.proofs.Bids.{joined_bids}
use Rattle.buffer_pool.proofs.calls.join.Goals as goal

pub invariant_of-seat : goal.invariant_of-seat
invariant_of-seat g c =
    record { no_bid = subst HasNoBid (sym c.join.ensures.view) (joined_bids (view c.args.seat.now) (view c.args.other) c.args.seat.now.no_bid) }
