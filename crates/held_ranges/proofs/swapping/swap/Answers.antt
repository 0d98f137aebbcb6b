use Rattle.std.proofs.Common.{◌≤◌, ◌*◌, [], ◌∷◌, sym, ap, ◌∙◌, subst}
use Rattle.std.specs.Prelude.{Some, slice_set}
use Rattle.buffer_pool.specs.Pools.{sizes_of}
use Rattle.range_cache.specs.declared.cache.Cache.{Cache}
use Rattle.range_cache.specs.Caches.{pool_of}
use Rattle.outside.specs.Cause.{HasCause}
use Rattle.held_ranges.specs.Deeds.{Keys, gets, misses, room_for}
use Rattle.held_ranges.specs.Moments.{keys_of, moment}
use Rattle.held_ranges.proofs.Gets.{ran_then}
use Rattle.held_ranges.proofs.Rooms.{err_map, ok_map}
use Rattle.held_ranges.proofs.swapping.swap.Goals as goal

pub get-requires-clause-fits : goal.get-requires-clause-fits
get-requires-clause-fits g c =
    subst (λ (x : Cache _). c.args.key.len ≤ 64 * (sizes_of (pool_of x)).min_block) (sym c.make_room.ensures.cache) c.requires.fits

pub returns-clause-got : goal.returns-clause-got
returns-clause-got g c =
    let keys : Keys = keys_of c.args.slots.now.items in
    ok_map c.get.result (ran_then g.W.World.files g.S.Store.reads (room_for c.args.slot c.args.key keys) (gets c.args.slot c.args.key ∷ [])
    (moment c.args.desk.now c.args.slots.now.items) (moment c.make_room.new.desk c.make_room.new.slots.items) (moment c.get.new.desk c.get.new.slots.items) c.make_room.ensures.went) c.get.ensures.got

pub returns-clause-keys : goal.returns-clause-keys
returns-clause-keys g c =
    ok_map c.get.result (λ e. e ∙ ap (λ (ks : Keys). slice_set ks c.args.slot (Some c.args.key)) c.make_room.ensures.keys) c.get.ensures.keys

pub returns-clause-missed : goal.returns-clause-missed
returns-clause-missed g c =
    let keys : Keys = keys_of c.args.slots.now.items in
    err_map c.get.result (ran_then g.W.World.files g.S.Store.reads (room_for c.args.slot c.args.key keys) (misses c.args.key ∷ [])
    (moment c.args.desk.now c.args.slots.now.items) (moment c.make_room.new.desk c.make_room.new.slots.items) (moment c.get.new.desk c.get.new.slots.items) c.make_room.ensures.went) c.get.ensures.missed

pub returns-clause-left : goal.returns-clause-left
returns-clause-left g c = err_map c.get.result (λ e. ap keys_of e ∙ c.make_room.ensures.keys) c.get.ensures.kept

pub returns-clause-cause : goal.returns-clause-cause
returns-clause-cause g c =
    subst (λ (s : _). HasCause (g.S.Store.fault_count s) (g.S.Store.fault_count c.get.new.desk.store.now) c.get.result) c.make_room.ensures.store c.get.ensures.cause
