use Rattle.range_cache.specs.Caches.{pool_of}
use Rattle.held_ranges.proofs.Rooms.{all_emptied, nothing_held}
use Rattle.held_ranges.proofs.swapping.let_go_all.Goals as goal

pub returns-clause-went : goal.returns-clause-went
returns-clause-went g c = c.let_go_from.ensures.went

pub returns-clause-empty : goal.returns-clause-empty
returns-clause-empty g c = all_emptied c.args.slots.now.items c.let_go_from.new.slots.items c.let_go_from.ensures.keys

pub returns-clause-no_pin : goal.returns-clause-no_pin
returns-clause-no_pin g c =
    nothing_held (pool_of c.let_go_from.new.desk.cache.now) c.let_go_from.new.desk.seat.now c.let_go_from.new.slots.items c.let_go_from.ensures.holding.holding
    (all_emptied c.args.slots.now.items c.let_go_from.new.slots.items c.let_go_from.ensures.keys)
