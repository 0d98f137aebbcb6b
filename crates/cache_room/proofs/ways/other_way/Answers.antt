use Rattle.std.proofs.Common.{◌+◌, ◌<◌, true, refl, sym, ◌∙◌, arith}
use Rattle.std.specs.Prelude.{slice_set}
use Rattle.std.proofs.lemmas.Bool.{false≢true}
use Rattle.cache_eviction.specs.OrderLaws.{all_tried, walk_end}
use Rattle.std.proofs.lemmas.List.{length-set}
use Rattle.buffer_pool.specs.Pools.{seat_id, sizes_of, view}
use Rattle.cache_room.proofs.Trials.{marked_more, set_tried, way_gone, way_held}
use Rattle.cache_room.proofs.Walks.{other_step}
use Rattle.cache_room.proofs.ways.other_way.Goals as goal

pub returns-in-Ok-clause-frees : goal.returns-in-Ok-clause-frees
returns-in-Ok-clause-frees g c key start h =
    let k = c.loop-way.invariant in
    way_gone g.W.World.files (sizes_of c.args.pool.now) (seat_id c.args.seat.now) key c.args.first c.requires.set start c.loop-way.seen c.loop-way.tried k.seen_len k.tried_len (seat_id c.loop-way.seat) k.same (c.args.first + c.loop-way.way) c.loop-way.way
    refl (omega arith) (view c.loop-way.seat) (view c.try_header.new.seat) (k.left key start h) c.try_header.ensures.marks c.try_header.ensures.grants c.in-Ok.field-0 c.in-Ok.ensures.tries

pub returns-clause-frees : goal.returns-clause-frees
returns-clause-frees g c key start h =
    let k = c.loop-way.invariant in
    set_tried g.W.World.files (sizes_of c.args.pool.now) (seat_id c.args.seat.now) key c.args.first start c.loop-way.seen c.loop-way.tried (view c.loop-way.seat) (k.left key start h) (λ way lt. k.done way (omega (arith, lt)))

pub loop-way-preserved : goal.loop-way-preserved
loop-way-preserved g c =
    let k = c.loop-way.invariant in
    let more = c.try_header.ensures in
    let len = k.tried_len in
    let set = c.requires.set in
    let entries = k.entries ∙ c.requires.entries in
    let below : c.loop-way.way < 8 = omega arith in
    record {
      of_pool = more.seat.of_pool;
      same = more.seat.same ∙ k.same;
      entries = more.entries ∙ k.entries;
      seen_len = length-set c.loop-way.seen c.loop-way.way c.in-Err.held.word ∙ k.seen_len;
      tried_len = length-set c.loop-way.tried c.loop-way.way true ∙ len;
      done = marked_more c.loop-way.tried c.loop-way.way (omega (arith, len)) k.done;
      left = λ key start h.
          way_held g.W.World.files (sizes_of c.args.pool.now) (seat_id c.args.seat.now) key c.args.first c.requires.set start c.loop-way.seen c.loop-way.tried k.seen_len k.tried_len (seat_id c.loop-way.seat) k.same (c.args.first + c.loop-way.way) c.loop-way.way
          refl (omega arith) (view c.loop-way.seat) (view c.try_header.new.seat) (k.left key start h) more.marks more.grants c.in-Err.held c.in-Err.ensures.tries;
      walk = λ told start h.
          other_step g.W.World.files (sizes_of c.args.pool.now) (seat_id c.args.seat.now) (seat_id c.loop-way.seat) c.args.first 8 told start c.loop-way.tried c.loop-way.policy (view c.loop-way.seat) k.same (k.walk told start h) (c.args.first + c.loop-way.way)
          c.loop-way.way c.try_header.new.policy (view c.try_header.new.seat) refl below (omega (arith, len, below)) (omega (arith, below, set, entries)) (sym c.is_marked.ensures ∙ c.if-is_marked.false) k.done more.one;
    }

pub returns-in-Ok-clause-walk : goal.returns-in-Ok-clause-walk
returns-in-Ok-clause-walk g c told start h =
    let k = c.loop-way.invariant in
    let files = g.W.World.files in
    let sizes = sizes_of c.args.pool.now in
    let id = seat_id c.args.seat.now in
    let way = c.loop-way.way in
    let len = k.tried_len in
    let set = c.requires.set in
    let entries = k.entries ∙ c.requires.entries in
    let below : way < 8 = omega arith in
    let step = other_step files sizes id (seat_id c.loop-way.seat) c.args.first 8 told start c.loop-way.tried c.loop-way.policy (view c.loop-way.seat) k.same (k.walk told start h) (c.args.first + way) way c.try_header.new.policy (view c.try_header.new.seat) refl below
    (omega (arith, len, below)) (omega (arith, below, set, entries)) (sym c.is_marked.ensures ∙ c.if-is_marked.false) k.done c.try_header.ensures.one in
    record {
      walk = walk_end files sizes id c.args.first 8 told start (slice_set c.loop-way.tried way true) c.try_header.new.policy (view c.try_header.new.seat) step.walk;
      all = λ is. absurd (false≢true is);
    }

pub returns-clause-walk : goal.returns-clause-walk
returns-clause-walk g c told start h =
    let k = c.loop-way.invariant in
    let files = g.W.World.files in
    let sizes = sizes_of c.args.pool.now in
    let id = seat_id c.args.seat.now in
    let on = k.walk told start h in
    record {
      walk = walk_end files sizes id c.args.first 8 told start c.loop-way.tried c.loop-way.policy (view c.loop-way.seat) on.walk;
      all = λ is. all_tried files sizes id c.args.first 8 told start c.loop-way.tried c.loop-way.policy (view c.loop-way.seat) on (λ way lt. k.done way (omega (arith, lt)));
    }
