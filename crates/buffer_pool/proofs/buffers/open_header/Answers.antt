use Rattle.std.proofs.Common.{◌<◌, length, refl, ap, ◌∙◌, arith}
use Rattle.std.specs.Prelude.{Some}
use Rattle.std.proofs.lemmas.Option.{none-some}
use Rattle.pool_rule.specs.declared.geometry.WordName.TheVariants.{State}
use Rattle.pool_rule.specs.declared.view.Claim.TheVariants.{Fresh}
use Rattle.pool_rule.specs.declared.word_step.WordStep.TheVariants.{Missed, Named, Opened}
use Rattle.buffer_pool.specs.Bids.{HasNoBid}
use Rattle.buffer_pool.specs.Callers.{made_granted}
use Rattle.buffer_pool.specs.Pools.{block_of, seat_id, sizes_of, view}
use Rattle.buffer_pool.proofs.Bids.{made_bids}
use Rattle.buffer_pool.proofs.Holds.{named_claim, opened_claim}
use Rattle.buffer_pool.proofs.buffers.open_header.Goals as goal

pub invariant_of-seat : goal.invariant_of-seat
invariant_of-seat g c =
    record { no_bid = made_bids g.W.World.files (sizes_of c.args.pool.now) (seat_id c.args.seat.now) (Missed (State c.args.header) c.open_buffer-saw.result) (view c.args.seat.now) c.open_buffer-saw.new.seat.me.0 (c.open_buffer-saw.ensures.missed c.if-saw-ne8.true) tt c.args.seat.now.no_bid }

pub returns-then-saw-ne8-clause-kept : goal.returns-then-saw-ne8-clause-kept
returns-then-saw-ne8-clause-kept g c =
    let b = block_of c.args.grant in (
      refl,
      record {
        block = c.requires.token.block;
        granted = made_granted g.W.World.files (sizes_of c.args.pool.now) (seat_id c.args.seat.now) (Missed (State c.args.header) c.open_buffer-saw.result) (view c.args.seat.now) c.open_buffer-saw.new.seat.me.0 (c.open_buffer-saw.ensures.missed c.if-saw-ne8.true) b.place (none-some b.place) ∙ c.requires.token.granted;
      },
    )

pub store_key-requires-clause-claim : goal.store_key-requires-clause-claim
store_key-requires-clause-claim g c =
    let v = view c.args.seat.now in
    let marks = c.requires.seat.live.marks in
    let inside = c.requires.header in
    let within : c.args.header < length v.marks = omega (arith, marks, inside) in
    let opened = c.open_buffer-saw.ensures.ok c.if-saw-ne8.false in
    opened_claim g.W.World.files (sizes_of c.args.pool.now) (seat_id c.args.seat.now) c.args.header v c.open_buffer-saw.new.seat.me.0 within (block_of c.args.grant) opened.0 opened.1

pub invariant_of-seat-2 : goal.invariant_of-seat-2
invariant_of-seat-2 g c =
    let opened = c.open_buffer-saw.ensures.ok c.if-saw-ne8.false in
    let u = c.open_buffer-saw.new.seat.me.0 in
    let first : HasNoBid u = made_bids g.W.World.files (sizes_of c.args.pool.now) (seat_id c.args.seat.now) (Opened c.args.header (block_of c.args.grant) opened.0) (view c.args.seat.now) u opened.1 tt c.args.seat.now.no_bid in
    record { no_bid = made_bids g.W.World.files (sizes_of c.args.pool.now) c.open_buffer-saw.new.seat.id (Named c.args.header (block_of c.args.grant) c.as_buffer_key.result c.store_key.ensures.made.0) u c.store_key.new.seat.me.0 c.store_key.ensures.made.1 tt first }

pub returns-clause-token : goal.returns-clause-token
returns-clause-token g c =
    let u = c.open_buffer-saw.new.seat.me.0 in
    let marks = c.open_buffer-saw.ensures.seat.seat.live.marks in
    let inside = c.requires.header in
    let within : c.args.header < length u.marks = omega (arith, marks, inside) in
    record {
      header = c.requires.header;
      block = c.requires.token.block;
      key = c.requires.key;
      fits = c.requires.fits;
      claim = named_claim g.W.World.files (sizes_of c.args.pool.now) c.open_buffer-saw.new.seat.id c.args.header u c.store_key.new.seat.me.0 within (block_of c.args.grant) c.as_buffer_key.result c.store_key.ensures.made.0 c.store_key.ensures.made.1 ∙ ap (λ k. Fresh (block_of c.args.grant) (Some k) 0) c.as_buffer_key.ensures;
    }
