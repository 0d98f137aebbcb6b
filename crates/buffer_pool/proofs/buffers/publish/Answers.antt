use Rattle.std.proofs.Common.{◌<◌, length, ap, ◌∙◌, arith}
use Rattle.std.specs.Prelude.{Some}
use Rattle.pool_rule.specs.declared.view.Hold.TheVariants.{Pinned}
use Rattle.pool_rule.specs.declared.word_step.WordStep.TheVariants.{Published}
use Rattle.buffer_pool.specs.Pools.{new_block, new_header, seat_id, sizes_of, view}
use Rattle.buffer_pool.proofs.Bids.{made_bids}
use Rattle.buffer_pool.proofs.Holds.{published_hold}
use Rattle.buffer_pool.proofs.buffers.publish.Goals as goal

pub invariant_of-seat : goal.invariant_of-seat
invariant_of-seat g c =
    record { no_bid = made_bids g.W.World.files (sizes_of c.args.pool.now) (seat_id c.args.seat.now) (Published (new_header c.args.new) (new_block c.args.new) c.as_buffer_key.result c.publish.result) (view c.args.seat.now) c.publish.new.seat.me.0 c.publish.ensures.made tt c.args.seat.now.no_bid }

pub returns-clause-token : goal.returns-clause-token
returns-clause-token g c =
    let v = view c.args.seat.now in
    let marks = c.requires.seat.live.marks in
    let token = c.requires.token in
    let inside = token.header in
    let within : new_header c.args.new < length v.marks = omega (arith, marks, inside) in
    record {
      header = token.header;
      block = token.block;
      key = token.key;
      fits = token.fits;
      pinned = published_hold g.W.World.files (sizes_of c.args.pool.now) (seat_id c.args.seat.now) (new_header c.args.new) v c.publish.new.seat.me.0 within (new_block c.args.new) c.as_buffer_key.result c.publish.result c.publish.ensures.made ∙ ap (λ k. Pinned (new_block c.args.new) (Some k)) c.as_buffer_key.ensures;
    }
