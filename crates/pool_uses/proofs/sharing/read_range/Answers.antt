use Rattle.std.proofs.Common.{◌∙◌}
use Rattle.buffer_pool.specs.Pools.{pin_block, pin_header, seat_id, sizes_of, view}
use Rattle.pool_uses.proofs.Composing.{reads}
use Rattle.pool_uses.proofs.sharing.read_range.Goals as goal

pub returns-in-Ok-clause-made : goal.returns-in-Ok-clause-made
returns-in-Ok-clause-made g c _ =
    let e1 = c.pin.ensures.seat.same in
    let e2 = c.read.ensures.seat.same ∙ e1 in
    let made = c.read.ensures.made in
    reads g.W.World.files (sizes_of c.args.pool.now) (seat_id c.args.seat.now) (seat_id c.pin.new.seat) (seat_id c.read.new.seat) c.args.header (pin_header c.in-Ok.pin) c.args.key c.args.at (pin_block c.in-Ok.pin) c.read.new.into made.0
    (view c.args.seat.now) (view c.pin.new.seat) (view c.read.new.seat) (view c.unpin.new.seat) e1 e2 c.in-Ok.ensures.header c.in-Ok.ensures.made made.1.count made.1.loads c.unpin.ensures.made
