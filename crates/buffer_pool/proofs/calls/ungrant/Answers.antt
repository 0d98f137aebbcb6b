use Rattle.pool_rule.specs.declared.word_step.WordStep.TheVariants.{Returned}
use Rattle.buffer_pool.specs.Pools.{block_of, seat_id, sizes_of, view}
use Rattle.buffer_pool.proofs.Bids.{made_bids}
use Rattle.buffer_pool.proofs.calls.ungrant.Goals as goal

pub invariant_of-seat : goal.invariant_of-seat
invariant_of-seat g c =
    record { no_bid = made_bids g.W.World.files (sizes_of c.args.pool.now) (seat_id c.args.seat.now) (Returned (block_of c.args.grant) c.give_block.result) (view c.args.seat.now) c.give_block.new.seat.me.0 c.give_block.ensures.made tt c.args.seat.now.no_bid }

pub returns-clause-made : goal.returns-clause-made
returns-clause-made g c = (c.give_block.result, c.give_block.ensures.made)
