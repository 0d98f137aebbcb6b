use Rattle.std.proofs.Common.{sym, subst}
use Rattle.buffer_pool.specs.Bids.{HasNoBid}
use Rattle.buffer_pool.specs.Pools.{view}
use Rattle.buffer_pool.proofs.Bids.{parted_bids, part_bids}
use Rattle.buffer_pool.proofs.calls.split.Goals as goal

pub invariant_of-seat : goal.invariant_of-seat
invariant_of-seat g c =
    record { no_bid = subst HasNoBid (sym c.split-part.ensures.view) (parted_bids c.args.numbers (view c.args.seat.now) c.args.seat.now.no_bid) }

pub invariant_of-result : goal.invariant_of-result
invariant_of-result g c =
    record { no_bid = subst HasNoBid (sym c.split-part.ensures.part) (part_bids c.args.numbers (view c.args.seat.now)) }
