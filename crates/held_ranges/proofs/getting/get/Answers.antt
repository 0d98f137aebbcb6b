use Rattle.std.proofs.Common.{refl}
use Rattle.range_cache.specs.Caches.{pool_of}
use Rattle.held_ranges.specs.Moments.{moment}
use Rattle.held_ranges.proofs.Gets.{get_ok, got_keys}
use Rattle.held_ranges.proofs.Holding.{no_pin}
use Rattle.held_ranges.proofs.getting.get.Goals as goal

pub get_range-requires-clause-no_pin : goal.get_range-requires-clause-no_pin
get_range-requires-clause-no_pin g c =
    no_pin (pool_of c.args.desk.now.cache.now) c.args.desk.now.seat.now c.args.slots.now.items c.args.key c.requires.holding.holding c.requires.new

pub returns-in-Ok-clause-holding : goal.returns-in-Ok-clause-holding
returns-in-Ok-clause-holding g c =
    let e = c.in-Ok.ensures in
    (get_ok g.W.World.files g.S.Store.reads c.args.key c.in-Ok.ranged c.args.desk.now c.get_range.new.desk c.put.new.seat c.args.slots.now.items c.put.new.slots.items c.args.slot
    c.requires.holding e.got e.seat e.evictor e.ranged c.requires.slot c.requires.empty c.put.ensures.seat c.put.ensures.slots).0

pub returns-in-Ok-clause-got : goal.returns-in-Ok-clause-got
returns-in-Ok-clause-got g c =
    let e = c.in-Ok.ensures in
    (get_ok g.W.World.files g.S.Store.reads c.args.key c.in-Ok.ranged c.args.desk.now c.get_range.new.desk c.put.new.seat c.args.slots.now.items c.put.new.slots.items c.args.slot
    c.requires.holding e.got e.seat e.evictor e.ranged c.requires.slot c.requires.empty c.put.ensures.seat c.put.ensures.slots).1

pub returns-in-Ok-clause-keys : goal.returns-in-Ok-clause-keys
returns-in-Ok-clause-keys g c =
    got_keys c.args.key c.in-Ok.ranged c.args.slots.now.items c.put.new.slots.items c.args.slot c.put.ensures.slots

pub returns-in-Err-clause-missed : goal.returns-in-Err-clause-missed
returns-in-Err-clause-missed g c = (moment c.get_range.new.desk c.args.slots.now.items, (c.in-Err.ensures.missed, refl), refl)
