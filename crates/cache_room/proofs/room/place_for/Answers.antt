use Rattle.std.proofs.Common.{◌≡◌, ◌+◌, ◌/◌, ℕ, true, false, refl, sym, subst}
use Rattle.std.specs.Prelude.{Option, Some, None, MatchOption, slice_set}
use Rattle.buffer_pool.specs.Pools.{seat_id, sizes_of, view}
use Rattle.cache_placement.specs.declared.why.Placed.{Placed}
use Rattle.cache_placement.specs.Placements.{IsPlacement}
use Rattle.cache_room.specs.Rooms.{RoomLeft, unless_full}
use Rattle.cache_room.specs.Searches.{is_no_room}
use Rattle.cache_room.proofs.Trials.{header_held, placed_for}
use Rattle.cache_room.proofs.Walks.{one_placed}
use Rattle.cache_room.specs.SearchLaws.{not_no_room}
use Rattle.cache_room.proofs.room.place_for.Goals as goal

pub returns-in-Ok-clause-left : goal.returns-in-Ok-clause-left
returns-in-Ok-clause-left g c start tried lt h =
    let files = g.W.World.files in
    let sizes = sizes_of c.args.pool.now in
    let id = seat_id c.args.seat.now in
    let wanted = c.args.wanted.now in
    let t = c.in-Ok.ensures.tries in
    let p = c.place.ensures.placed in
    let from = c.in-Ok.block.place / 64 in
    let I : ℕ → Type 0 = λ n. IsPlacement files sizes n wanted.key wanted.order wanted.first wanted.states from (from + 1) p.0 (view c.try_header.new.seat) (view c.place.new.seat) c.place.result in
    let P : Option Placed → Type 0 = λ r. RoomLeft files sizes id wanted start (slice_set tried c.args.header true) c.saturating_add.result (view c.place.new.seat) r in
    subst P (sym c.unless_full.ensures)
    (placed_for files sizes id wanted start tried c.args.evicted.now c.args.header c.requires.header c.in-Ok.block from (from + 1) c.saturating_add.result t.0 p.0
    (view c.args.seat.now) (view c.try_header.new.seat) (view c.place.new.seat) h t.2 t.1 c.try_header.ensures.marks c.try_header.ensures.grants c.saturating_add.ensures refl refl c.requires.free c.requires.wanted.order c.place.result (subst I c.try_header.ensures.seat.same p.1))

pub returns-in-Err-clause-left : goal.returns-in-Err-clause-left
returns-in-Err-clause-left g c start tried lt h =
    header_held g.W.World.files (sizes_of c.args.pool.now) (seat_id c.args.seat.now) c.args.wanted.now start tried c.args.evicted.now c.args.header c.requires.header (seat_id c.args.seat.now) c.in-Err.field-0 (view c.args.seat.now) (view c.try_header.new.seat) (λ i. seat_id c.args.seat.now) h
    c.in-Err.ensures.tries c.try_header.ensures.marks c.try_header.ensures.grants

pub returns-in-Ok-clause-one : goal.returns-in-Ok-clause-one
returns-in-Ok-clause-one g c =
    let p = c.place.ensures.placed in
    let from = c.in-Ok.block.place / 64 in
    one_placed g.W.World.files (sizes_of c.args.pool.now) (seat_id c.args.seat.now) (seat_id c.try_header.new.seat) c.args.header c.args.policy.now c.try_header.new.policy c.args.wanted.now from (from + 1) p.0 (view c.args.seat.now) (view c.try_header.new.seat)
    (view c.place.new.seat) c.place.result c.try_header.ensures.seat.same c.try_header.ensures.one p.1

pub returns-in-Ok-clause-roomy : goal.returns-in-Ok-clause-roomy
returns-in-Ok-clause-roomy g c = roomy c.unless_full.result c.unless_full.ensures
  where
    roomy : (r : Option Placed) → r ≡ unless_full c.place.result → MatchOption r (Unit {0}) (λ placed. is_no_room placed ≡ false)
    roomy None e = tt
    roomy (Some placed) e = not_no_room c.place.result placed (sym e)
