use Rattle.std.proofs.Common.{◌∙◌, sym, subst}
use Rattle.pool_model.specs.declared.block.Block.{Block}
use Rattle.buffer_pool.specs.Callers.{refused_granted, refused_mark}
use Rattle.buffer_pool.specs.Pools.{block_of, evicting_block, evicting_header, seat_id, sizes_of, view}
use Rattle.cache_eviction.specs.Evictions.{OutSteps}
use Rattle.cache_eviction.proofs.Outs.{outs, outs_granted, outs_mark, refuses}
use Rattle.cache_eviction.proofs.evicting.evict.Goals as goal

pub returns-in-Ok-clause-tries : goal.returns-in-Ok-clause-tries
returns-in-Ok-clause-tries g c =
    let e = evicting_block c.in-Ok.evicting in
    let e1 = c.begin_evict.ensures.seat.same in
    let made = outs g.W.World.files (sizes_of c.args.pool.now) (seat_id c.args.seat.now) (seat_id c.begin_evict.new.seat) (seat_id c.release-granted.new.seat) c.args.header (evicting_header c.in-Ok.evicting) e (block_of c.release-granted.result)
    (view c.args.seat.now) (view c.begin_evict.new.seat) (view c.release-granted.new.seat) (view c.ungrant.new.seat) e1 (c.release-granted.ensures.seat.same ∙ e1) c.in-Ok.ensures.header c.release-granted.ensures.block
    c.in-Ok.ensures.made c.release-granted.ensures.made c.ungrant.ensures.made in
    let P : Block → Type 0 = λ b. OutSteps c.args.header made.0 b in
    (made.0, made.1, subst P (sym c.block-block.ensures) made.2)

pub returns-in-Ok-clause-marks : goal.returns-in-Ok-clause-marks
returns-in-Ok-clause-marks g c =
    outs_mark g.W.World.files (sizes_of c.args.pool.now) (seat_id c.args.seat.now) (seat_id c.begin_evict.new.seat) (seat_id c.release-granted.new.seat) c.args.header (evicting_header c.in-Ok.evicting) (evicting_block c.in-Ok.evicting) (block_of c.release-granted.result)
    (view c.args.seat.now) (view c.begin_evict.new.seat) (view c.release-granted.new.seat) (view c.ungrant.new.seat) c.in-Ok.ensures.header c.release-granted.ensures.block
    c.in-Ok.ensures.made c.release-granted.ensures.made c.ungrant.ensures.made

pub returns-in-Ok-clause-grants : goal.returns-in-Ok-clause-grants
returns-in-Ok-clause-grants g c =
    outs_granted g.W.World.files (sizes_of c.args.pool.now) (seat_id c.args.seat.now) (seat_id c.begin_evict.new.seat) (seat_id c.release-granted.new.seat) c.args.header (evicting_header c.in-Ok.evicting) (evicting_block c.in-Ok.evicting) (block_of c.release-granted.result)
    (view c.args.seat.now) (view c.begin_evict.new.seat) (view c.release-granted.new.seat) (view c.ungrant.new.seat) c.in-Ok.ensures.header c.release-granted.ensures.block
    c.in-Ok.ensures.made c.release-granted.ensures.made c.ungrant.ensures.made

pub returns-in-Err-clause-tries : goal.returns-in-Err-clause-tries
returns-in-Err-clause-tries g c =
    refuses g.W.World.files (sizes_of c.args.pool.now) (seat_id c.args.seat.now) c.args.header (view c.args.seat.now) (view c.begin_evict.new.seat) c.in-Err.held c.in-Err.ensures.made

pub returns-in-Err-clause-marks : goal.returns-in-Err-clause-marks
returns-in-Err-clause-marks g c =
    refused_mark g.W.World.files (sizes_of c.args.pool.now) (seat_id c.args.seat.now) c.args.header (view c.args.seat.now) (view c.begin_evict.new.seat) c.in-Err.held c.in-Err.ensures.made

pub returns-in-Err-clause-grants : goal.returns-in-Err-clause-grants
returns-in-Err-clause-grants g c =
    refused_granted g.W.World.files (sizes_of c.args.pool.now) (seat_id c.args.seat.now) c.args.header (view c.args.seat.now) (view c.begin_evict.new.seat) c.in-Err.held c.in-Err.ensures.made
