use Rattle.buffer_pool.specs.Pools.{block_at, pin_header, seat_id, sizes_of, view}
use Rattle.pool_uses.proofs.Composing.{shares}
use Rattle.pool_uses.proofs.sharing.share.Goals as goal

pub returns-in-Some-clause-shares : goal.returns-in-Some-clause-shares
returns-in-Some-clause-shares g c _ =
    shares g.W.World.files (sizes_of c.args.pool.now) (seat_id c.args.first.now) (seat_id c.publish_range.new.seat) c.args.header (pin_header c.in-Some.pin) c.args.key (block_at c.args.place c.args.order) c.args.seen c.args.bytes.now
    (view c.args.first.now) (view c.publish_range.new.seat) (view c.unpin.new.seat) c.publish_range.ensures.seat.same c.in-Some.ensures.is.0 c.in-Some.ensures.made c.unpin.ensures.made
