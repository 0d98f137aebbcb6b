use Rattle.std.proofs.Common.{◌<◌, ℕ, true, length, sym, ap, ◌∙◌, subst, arith}
use Rattle.std.specs.Prelude.{Some, slice_set}
use Rattle.std.proofs.lemmas.List.{length-set}
use Rattle.cache_room.proofs.Trials.{marked_more}
use Rattle.pool_rule.specs.Layout.{headers_of}
use Rattle.cache_eviction.specs.OrderLaws.{walk_end}
use Rattle.pool_rule.specs.declared.geometry.Geometry.{Geometry}
use Rattle.buffer_pool.specs.Pools.{seat_id, sizes_of, view}
use Rattle.cache_room.specs.Rooms.{HeadersTried, RoomLeft}
use Rattle.cache_room.proofs.Walks.{other_step}
use Rattle.cache_room.proofs.room.place_for_others.Goals as goal

pub returns-in-Some-clause-left : goal.returns-in-Some-clause-left
returns-in-Some-clause-left g c start h =
    let k = c.loop-header.invariant in
    let files = g.W.World.files in
    let sizes = sizes_of c.args.pool.now in
    let wanted = c.args.wanted.now in
    let all = c.requires.tried in
    let len = k.tried_len in
    let sets = ap (λ (x : Geometry). x.sets) c.geometry-header-end.ensures.sizes in
    let H : ℕ → Type 0 = λ n. HeadersTried files sizes n wanted.key start c.loop-header.tried c.loop-header.evicted (view c.loop-header.seat) in
    let R : ℕ → Type 0 = λ n. RoomLeft files sizes n wanted start (slice_set c.loop-header.tried c.loop-header.header true) c.place_for.new.evicted (view c.place_for.new.seat) (Some c.in-Some.placed) in
    subst R k.same (c.in-Some.ensures.left start c.loop-header.tried (omega (arith, all, len, sets, c.loop-header.auto.header-end)) (subst H (sym k.same) (k.left start h)))

pub returns-in-Some-clause-walk : goal.returns-in-Some-clause-walk
returns-in-Some-clause-walk g c told start h =
    let k = c.loop-header.invariant in
    let files = g.W.World.files in
    let sizes = sizes_of c.args.pool.now in
    let id = seat_id c.args.seat.now in
    let header = c.loop-header.header in
    let tried = c.loop-header.tried in
    let all = c.requires.tried in
    let len = k.tried_len in
    let entries = c.requires.entries in
    let same = k.entries in
    let sets = ap (λ (x : Geometry). x.sets) c.geometry-header-end.ensures.sizes in
    let below : header < headers_of sizes = omega (arith, sets, c.loop-header.auto.header-end) in
    let step = other_step files sizes id (seat_id c.loop-header.seat) 0 (headers_of sizes) told start tried c.loop-header.policy (view c.loop-header.seat) k.same (k.walk told start h) header header c.place_for.new.policy (view c.place_for.new.seat) (omega arith) below
    (omega (arith, all, len, below)) (omega (arith, entries, same, below)) (sym c.is_marked.ensures ∙ c.if-is_marked.false) k.done c.place_for.ensures.one in
    walk_end files sizes id 0 (headers_of sizes) told start (slice_set tried header true) c.place_for.new.policy (view c.place_for.new.seat) step.walk

pub returns-clause-walk : goal.returns-clause-walk
returns-clause-walk g c told start h = c.loop-header.invariant.walk told start h

pub loop-header-preserved : goal.loop-header-preserved
loop-header-preserved g c =
    let k = c.loop-header.invariant in
    let files = g.W.World.files in
    let sizes = sizes_of c.args.pool.now in
    let id = seat_id c.args.seat.now in
    let header = c.loop-header.header in
    let tried = c.loop-header.tried in
    let all = c.requires.tried in
    let len = k.tried_len in
    let entries = c.requires.entries in
    let same = k.entries in
    let sets = ap (λ (x : Geometry). x.sets) c.geometry-header-end.ensures.sizes in
    let below : header < headers_of sizes = omega (arith, sets, c.loop-header.auto.header-end) in
    let within : header < length tried = omega (arith, all, len, below) in
    record {
      of_pool = c.place_for.ensures.seat.of_pool;
      same = c.place_for.ensures.seat.same ∙ k.same;
      entries = c.place_for.ensures.entries ∙ same;
      tried_len = length-set tried header true ∙ len;
      done = marked_more tried header within k.done;
      few = (let one = c.place_for.ensures.few in let was = k.few in omega (arith, one, was));
      left = λ start h.
          let H : ℕ → Type 0 = λ n. HeadersTried files sizes n c.args.wanted.now.key start tried c.loop-header.evicted (view c.loop-header.seat) in
          let R : ℕ → Type 0 = λ n. HeadersTried files sizes n c.args.wanted.now.key start (slice_set tried header true) c.place_for.new.evicted (view c.place_for.new.seat) in
          subst R k.same (c.in-None.ensures.left start tried within (subst H (sym k.same) (k.left start h)));
      walk = λ told start h.
          other_step files sizes id (seat_id c.loop-header.seat) 0 (headers_of sizes) told start tried c.loop-header.policy (view c.loop-header.seat) k.same (k.walk told start h) header header c.place_for.new.policy (view c.place_for.new.seat) (omega arith) below within
          (omega (arith, entries, same, below)) (sym c.is_marked.ensures ∙ c.if-is_marked.false) k.done c.place_for.ensures.one;
    }
