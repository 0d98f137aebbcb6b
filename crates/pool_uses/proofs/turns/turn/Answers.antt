use Rattle.std.proofs.Common.{◌≡◌, ℕ, ◌+◌, ◌*◌, ◌/◌, sym, subst}
use Rattle.pool_model.specs.declared.block.Block.{Block}
use Rattle.pool_rule.specs.declared.geometry.WordName.TheVariants.{Arena}
use Rattle.pool_rule.specs.declared.word_step.WordStep.TheVariants.{Returned}
use Rattle.pool_rule.specs.Seats.{HasNothing}
use Rattle.pool_rule.specs.WordSteps.{IsMade}
use Rattle.buffer_pool.specs.Callers.{looked_nothing, missed_nothing, returned_nothing}
use Rattle.buffer_pool.specs.Pools.{block_at, block_of, seat_id, sizes_of, view}
use Rattle.pool_uses.proofs.turns.turn.Goals as goal

pub grant-requires-clause-block : goal.grant-requires-clause-block
grant-requires-clause-block g c =
    (c.found_blocks_can_be_granted.ensures (sizes_of c.args.pool.now) c.args.arena c.args.order c.in-Some.offset c.look-word.result c.requires.arena c.requires.order c.in-Some.ensures.answer).0

pub grant-requires-clause-clear : goal.grant-requires-clause-clear
grant-requires-clause-clear g c =
    (c.found_blocks_can_be_granted.ensures (sizes_of c.args.pool.now) c.args.arena c.args.order c.in-Some.offset c.look-word.result c.requires.arena c.requires.order c.in-Some.ensures.answer).1

pub returns-in-None-clause-nothing : goal.returns-in-None-clause-nothing
returns-in-None-clause-nothing g c =
    looked_nothing g.W.World.files (sizes_of c.args.pool.now) (seat_id c.args.seat.now) (Arena c.args.arena) c.look-word.result (view c.args.seat.now) (view c.look-word.new.seat) c.look-word.ensures.made c.requires.nothing

pub returns-in-Err-clause-nothing : goal.returns-in-Err-clause-nothing
returns-in-Err-clause-nothing g c =
    let looked = looked_nothing g.W.World.files (sizes_of c.args.pool.now) (seat_id c.args.seat.now) (Arena c.args.arena) c.look-word.result (view c.args.seat.now) (view c.look-word.new.seat) c.look-word.ensures.made c.requires.nothing in
    missed_nothing g.W.World.files (sizes_of c.args.pool.now) (seat_id c.look-word.new.seat) (Arena ((64 * c.args.arena + c.in-Some.offset) / 64)) c.in-Err.field-0.saw (view c.look-word.new.seat) (view c.grant.new.seat) c.in-Err.ensures.err looked

pub returns-in-Ok-clause-nothing : goal.returns-in-Ok-clause-nothing
returns-in-Ok-clause-nothing g c =
    let geometry = sizes_of c.args.pool.now in
    let b = block_at (64 * c.args.arena + c.in-Some.offset) c.args.order in
    let looked = looked_nothing g.W.World.files geometry (seat_id c.args.seat.now) (Arena c.args.arena) c.look-word.result (view c.args.seat.now) (view c.look-word.new.seat) c.look-word.ensures.made c.requires.nothing in
    let R : Block → Type 0 = λ x. IsMade g.W.World.files geometry (seat_id c.grant.new.seat) (Returned x c.ungrant.ensures.made.0) (view c.grant.new.seat) (view c.ungrant.new.seat) in
    returned_nothing g.W.World.files geometry (seat_id c.look-word.new.seat) (seat_id c.grant.new.seat) b c.look-word.result c.ungrant.ensures.made.0 (view c.look-word.new.seat) (view c.grant.new.seat) (view c.ungrant.new.seat) c.in-Ok.ensures.ok (subst R c.in-Ok.ensures.block c.ungrant.ensures.made.1) looked
