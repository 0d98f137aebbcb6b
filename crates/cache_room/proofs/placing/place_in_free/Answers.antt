use Rattle.std.proofs.Common.{ℕ, refl, sym, ap, ◌∙◌, subst}
use Rattle.pool_rule.specs.declared.geometry.Geometry.{Geometry}
use Rattle.pool_rule.specs.Layout.{headers_of}
use Rattle.cache_room.proofs.Walks.{placement_made}
use Rattle.cache_room.specs.Searches.{Searches, is_no_room}
use Rattle.cache_room.specs.SearchLaws.{not_no_room, place_evicts, searched_behind, unsearched}
use Rattle.buffer_pool.specs.Pools.{seat_id, sizes_of, view}
use Rattle.cache_room.specs.TriedLaws.{place_releases}
use Rattle.cache_room.proofs.Trials.{at_once, full_words, made_behind, quiet_full}
use Rattle.cache_room.proofs.placing.place_in_free.Goals as goal

pub returns-in-Some-clause-makes : goal.returns-in-Some-clause-makes
returns-in-Some-clause-makes g c =
    let p = c.place-placed.ensures.placed in
    at_once g.W.World.files (sizes_of c.args.pool.now) (seat_id c.args.seat.now) c.args.wanted.now 0 c.geometry-arenas.result.arenas p.0 (view c.args.seat.now) (view c.place-placed.new.seat) c.place-placed.result c.in-Some.placed
    (sym c.unless_full.ensures ∙ c.in-Some.is) p.1

pub returns-in-None-clause-makes : goal.returns-in-None-clause-makes
returns-in-None-clause-makes g c =
    let p = c.place-placed.ensures.placed in
    let files = g.W.World.files in
    let sizes = sizes_of c.args.pool.now in
    let none = sym c.unless_full.ensures ∙ c.in-None.is in
    let full = full_words files sizes (seat_id c.args.seat.now) c.args.wanted.now 0 c.geometry-arenas.result.arenas p.0 (view c.args.seat.now) (view c.place-placed.new.seat) c.place-placed.result none p.1 in
    let quiet = quiet_full files sizes (seat_id c.args.seat.now) c.args.wanted.now 0 c.geometry-arenas.result.arenas p.0 (view c.args.seat.now) (view c.place-placed.new.seat) c.place-placed.result none p.1 in
    made_behind files sizes (seat_id c.args.seat.now) (seat_id c.place-placed.new.seat) c.args.wanted.now (view c.args.seat.now) (view c.place-placed.new.seat) (view c.place_evicting.new.seat) p.0 c.place_evicting.result.evicted c.geometry-arenas.result.arenas c.place_evicting.result.placed
    c.place-placed.ensures.seat.same quiet (place_releases p.0 p.1.only) c.requires.wanted.order (ap (λ (x : Geometry). x.arenas) c.geometry-arenas.ensures.sizes) full c.place_evicting.ensures.makes

pub returns-in-Some-clause-searched : goal.returns-in-Some-clause-searched
returns-in-Some-clause-searched g c =
    let files = g.W.World.files in
    let sizes = sizes_of c.args.pool.now in
    let id = seat_id c.args.seat.now in
    let p = c.place-placed.ensures.placed in
    unsearched files sizes id (is_no_room c.in-Some.placed) c.args.policy.now c.args.policy.now p.0 (view c.args.seat.now) (view c.place-placed.new.seat) refl (not_no_room c.place-placed.result c.in-Some.placed (sym c.unless_full.ensures ∙ c.in-Some.is)) (place_evicts p.0 p.1.only)
    (placement_made files sizes id id c.args.wanted.now 0 c.geometry-arenas.result.arenas p.0 (view c.args.seat.now) (view c.place-placed.new.seat) c.place-placed.result refl p.1)

pub returns-in-None-clause-searched : goal.returns-in-None-clause-searched
returns-in-None-clause-searched g c =
    let files = g.W.World.files in
    let sizes = sizes_of c.args.pool.now in
    let id = seat_id c.args.seat.now in
    let p = c.place-placed.ensures.placed in
    let r = c.place_evicting.result in
    let S : ℕ → Type 0 = λ n. Searches files sizes n 0 (headers_of sizes) (is_no_room r.placed) c.args.policy.now c.place_evicting.new.policy (view c.place-placed.new.seat) (view c.place_evicting.new.seat) in
    searched_behind files sizes id (is_no_room r.placed) c.args.policy.now c.place_evicting.new.policy p.0 (view c.args.seat.now) (view c.place-placed.new.seat) (view c.place_evicting.new.seat) (place_evicts p.0 p.1.only)
    (placement_made files sizes id id c.args.wanted.now 0 c.geometry-arenas.result.arenas p.0 (view c.args.seat.now) (view c.place-placed.new.seat) c.place-placed.result refl p.1) (subst S c.place-placed.ensures.seat.same c.place_evicting.ensures.searched)
