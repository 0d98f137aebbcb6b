use Rattle.std.proofs.Common.{◌∙◌}
use Rattle.buffer_pool.specs.Pools.{seat_id, sizes_of, view}
use Rattle.cache_consult.proofs.Learning.{asked, learns, missed}
use Rattle.cache_consult.proofs.consulting.learn.Goals as goal

pub returns-then-seen-eq0-clause-learns : goal.returns-then-seen-eq0-clause-learns
returns-then-seen-eq0-clause-learns g c =
    asked g.W.World.files (sizes_of c.args.pool.now) (seat_id c.args.seat.now) c.args.header c.look-seen.result c.args.policy.now (view c.args.seat.now) (view c.look-seen.new.seat) c.if-seen-eq0.true c.look-seen.ensures.made

pub returns-then-touches-eq0-clause-learns : goal.returns-then-touches-eq0-clause-learns
returns-then-touches-eq0-clause-learns g c =
    missed g.W.World.files (sizes_of c.args.pool.now) (seat_id c.args.seat.now) (seat_id c.look-seen.new.seat) c.args.header c.look-seen.result c.take_touches-touches.result c.args.policy.now
    (view c.args.seat.now) (view c.look-seen.new.seat) (view c.take_touches-touches.new.seat) c.look-seen.ensures.seat.same c.if-seen-eq0.false c.if-touches-eq0.true
    c.look-seen.ensures.made c.take_touches-touches.ensures.made

pub returns-clause-learns : goal.returns-clause-learns
returns-clause-learns g c =
    let e1 = c.look-seen.ensures.seat.same in
    let e2 = c.take_touches-touches.ensures.seat.same ∙ e1 in
    let e3 = c.look-key.ensures.seat.same ∙ e2 in
    learns g.W.World.files (sizes_of c.args.pool.now) (seat_id c.args.seat.now) (seat_id c.look-seen.new.seat) (seat_id c.take_touches-touches.new.seat) (seat_id c.look-key.new.seat)
    c.args.header c.look-seen.result c.take_touches-touches.result c.look-key.result c.look-last.result c.args.policy.now c.sync.new.self
    (view c.args.seat.now) (view c.look-seen.new.seat) (view c.take_touches-touches.new.seat) (view c.look-key.new.seat) (view c.look-last.new.seat)
    e1 e2 e3 c.if-seen-eq0.false c.if-touches-eq0.false c.look-seen.ensures.made c.take_touches-touches.ensures.made c.look-key.ensures.made c.look-last.ensures.made c.sync.ensures
