use Rattle.std.proofs.Common.{ℕ, refl, subst}
use Rattle.cache_room.proofs.Walks.{not_full}
use Rattle.cache_room.specs.Searches.{SearchesIf, is_no_room}
use Rattle.cache_room.specs.SearchLaws.{ranked_free, ranked_freed, ranked_full}
use Rattle.buffer_pool.specs.Pools.{seat_id, sizes_of, view}
use Rattle.cache_room.specs.declared.wanted.Wanted.{Wanted}
use Rattle.cache_room.specs.QuietLaws.{known_later}
use Rattle.cache_room.specs.Rooms.{MakesWhereFull, in_free, in_freed, in_none}
use Rattle.cache_room.proofs.placing.place_or_evict.Goals as goal

pub returns-in-Some-clause-room : goal.returns-in-Some-clause-room
returns-in-Some-clause-room g c = in_free c.in-Some.field-0 c.place_in_free.result.placed c.in-Some.ensures c.place_in_free.ensures.makes

pub with_freed-wanted-requires : goal.with_freed-wanted-requires
with_freed-wanted-requires g c = (c.in-Some-free_way.ensures.frees c.args.wanted.key).inside

pub place_in_free-placed-requires-clause-known : goal.place_in_free-placed-requires-clause-known
place_in_free-placed-requires-clause-known g c =
    known_later (view c.args.seat.now) (view c.free_way.new.seat) c.requires.known (c.in-Some-free_way.ensures.frees c.args.wanted.key).quiet.before

pub returns-in-Some-free_way-clause-room : goal.returns-in-Some-free_way-clause-room
returns-in-Some-free_way-clause-room g c =
    let m = c.place_in_free-placed.ensures.makes in
    let r = c.place_in_free-placed.result in
    let P : ℕ × Wanted → Type 0 = λ z. MakesWhereFull g.W.World.files (sizes_of c.args.pool.now) z.0 z.1 (view c.free_way.new.seat) (view c.place_in_free-placed.new.seat) r.evicted r.placed in
    let e = c.free_way.ensures.seat.same in
    let f = c.with_freed-wanted.ensures.same in
    in_freed c.in-Some-free_way.way r.evicted (view c.free_way.new.seat) r.placed c.in-None.ensures (c.in-Some-free_way.ensures.frees c.args.wanted.key) (subst P (λ i. (e i, f i)) m) c.saturating_add-evicted.ensures

pub returns-in-None-free_way-clause-room : goal.returns-in-None-free_way-clause-room
returns-in-None-free_way-clause-room g c = in_none c.free_way.new.seen c.in-None.ensures (c.in-None-free_way.ensures.frees c.args.wanted.key) refl

pub returns-in-Some-clause-ranked : goal.returns-in-Some-clause-ranked
returns-in-Some-clause-ranked g c =
    let files = g.W.World.files in
    let sizes = sizes_of c.args.pool.now in
    let id = seat_id c.args.seat.now in
    let r = c.place_in_free.result in
    ranked_free files sizes id c.args.wanted.first c.args.policy.now c.place_in_free.new.policy (view c.args.seat.now) (view c.place_in_free.new.seat) r.placed
    (not_full files sizes id c.args.wanted (view c.args.seat.now) (view c.place_in_free.new.seat) r.evicted c.in-Some.field-0 r.placed c.in-Some.ensures.inside c.in-Some.ensures.free c.place_in_free.ensures.makes.0) c.place_in_free.ensures.searched

pub returns-in-Some-free_way-clause-ranked : goal.returns-in-Some-free_way-clause-ranked
returns-in-Some-free_way-clause-ranked g c =
    let files = g.W.World.files in
    let sizes = sizes_of c.args.pool.now in
    let id = seat_id c.args.seat.now in
    let r = c.place_in_free-placed.result in
    let way = c.in-Some-free_way.way in
    let S : ℕ → Type 0 = λ n. SearchesIf files sizes n (is_no_room r.placed) c.free_way.new.policy c.place_in_free-placed.new.policy (view c.free_way.new.seat) (view c.place_in_free-placed.new.seat) in
    ranked_freed files sizes id c.args.wanted.first _ c.args.policy.now c.free_way.new.policy c.place_in_free-placed.new.policy (view c.args.seat.now) (view c.free_way.new.seat) (view c.place_in_free-placed.new.seat) r.placed
    (not_full files sizes (seat_id c.free_way.new.seat) c.with_freed-wanted.result (view c.free_way.new.seat) (view c.place_in_free-placed.new.seat) r.evicted way r.placed (c.in-Some-free_way.ensures.frees c.args.wanted.key).inside c.with_freed-wanted.ensures.free c.place_in_free-placed.ensures.makes.0)
    c.in-Some-free_way.ensures.searched (subst S c.free_way.ensures.seat.same c.place_in_free-placed.ensures.searched)

pub returns-in-None-free_way-clause-ranked : goal.returns-in-None-free_way-clause-ranked
returns-in-None-free_way-clause-ranked g c =
    ranked_full g.W.World.files (sizes_of c.args.pool.now) (seat_id c.args.seat.now) c.args.wanted.first _ c.args.policy.now c.free_way.new.policy (view c.args.seat.now) (view c.free_way.new.seat) c.free_way.new.seen refl c.in-None-free_way.ensures.searched

pub place_in_free-requires-clause-free : goal.place_in_free-requires-clause-free
place_in_free-requires-clause-free g c = (c.in-Some.field-0, c.in-Some.ensures.inside, c.in-Some.ensures.free)

pub place_in_free-placed-requires-clause-free : goal.place_in_free-placed-requires-clause-free
place_in_free-placed-requires-clause-free g c =
    (c.in-Some-free_way.way, (c.in-Some-free_way.ensures.frees c.args.wanted.key).inside, c.with_freed-wanted.ensures.free)
