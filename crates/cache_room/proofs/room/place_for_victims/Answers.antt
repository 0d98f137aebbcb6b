use Rattle.std.proofs.Common.{◌<◌, ℕ, true, length, sym, ◌∙◌, subst, arith}
use Rattle.std.specs.Prelude.{Some, None, slice_set}
use Rattle.std.proofs.lemmas.List.{length-set}
use Rattle.lrfu_policy.specs.Victim.{Among, IsLeast}
use Rattle.pool_rule.specs.Layout.{headers_of}
use Rattle.cache_eviction.specs.OrderLaws.{all_ranked, walk_end}
use Rattle.buffer_pool.specs.Pools.{seat_id, sizes_of, view}
use Rattle.cache_room.specs.Rooms.{HeadersTried, RoomLeft}
use Rattle.cache_room.proofs.Trials.{few_above, walks_on}
use Rattle.cache_room.proofs.Walks.{victim_step}
use Rattle.cache_room.proofs.room.place_for_victims.Goals as goal

pub returns-in-Some-place_for-clause-left : goal.returns-in-Some-place_for-clause-left
returns-in-Some-place_for-clause-left g c start h =
    let k = c.loop-rank.invariant in
    let files = g.W.World.files in
    let sizes = sizes_of c.args.pool.now in
    let wanted = c.args.wanted.now in
    let all = c.requires.tried in
    let entries = c.requires.entries in
    let len = k.tried_len in
    let same = k.entries in
    let below = c.in-Some.ensures.among.1 in
    let H : ℕ → Type 0 = λ n. HeadersTried files sizes n wanted.key start c.loop-rank.tried c.loop-rank.evicted (view c.loop-rank.seat) in
    let R : ℕ → Type 0 = λ n. RoomLeft files sizes n wanted start (slice_set c.loop-rank.tried c.in-Some.rank.header true) c.place_for.new.evicted (view c.place_for.new.seat) (Some c.in-Some-place_for.placed) in
    subst R k.same (c.in-Some-place_for.ensures.left start c.loop-rank.tried (omega (arith, all, entries, len, same, below)) (subst H (sym k.same) (k.left start h)))

pub loop-rank-smaller : goal.loop-rank-smaller
loop-rank-smaller g c =
    let below = c.in-Some.ensures.among.1 in
    walks_on c.walk_ends.ensures.falls c.walk_ends.ensures.forgets c.loop-rank.policy c.place_for.new.policy c.loop-rank.after c.in-Some.rank c.in-Some.ensures (omega (arith, below)) c.place_for.ensures.entries
    c.place_for.ensures.policy

pub loop-rank-preserved : goal.loop-rank-preserved
loop-rank-preserved g c =
    let k = c.loop-rank.invariant in
    let files = g.W.World.files in
    let sizes = sizes_of c.args.pool.now in
    let id = seat_id c.args.seat.now in
    let rank = c.in-Some.rank in
    let tried = c.loop-rank.tried in
    let all = c.requires.tried in
    let entries = c.requires.entries in
    let len = k.tried_len in
    let same = k.entries in
    let below = c.in-Some.ensures.among.1 in
    let within : rank.header < length tried = omega (arith, all, entries, len, same, below) in
    let L : ℕ → Type 0 = λ n. IsLeast (Among 0 n) c.loop-rank.policy.entries c.loop-rank.after (Some rank) in
    record {
      of_pool = c.place_for.ensures.seat.of_pool;
      same = c.place_for.ensures.seat.same ∙ k.same;
      entries = c.place_for.ensures.entries ∙ k.entries;
      tried_len = length-set tried rank.header true ∙ k.tried_len;
      few = (let smaller = walks_on c.walk_ends.ensures.falls c.walk_ends.ensures.forgets c.loop-rank.policy c.place_for.new.policy c.loop-rank.after rank c.in-Some.ensures (omega (arith, below)) c.place_for.ensures.entries c.place_for.ensures.policy in let one = c.place_for.ensures.few in let was = k.few in omega (arith, smaller, one, was));
      left = λ start h.
          let H : ℕ → Type 0 = λ n. HeadersTried files sizes n c.args.wanted.now.key start tried c.loop-rank.evicted (view c.loop-rank.seat) in
          let R : ℕ → Type 0 = λ n. HeadersTried files sizes n c.args.wanted.now.key start (slice_set tried rank.header true) c.place_for.new.evicted (view c.place_for.new.seat) in
          subst R k.same (c.in-None.ensures.left start tried within (subst H (sym k.same) (k.left start h)));
      walk = λ told start h.
          victim_step c.ranks_are_ordered.ensures c.none_between.ensures files sizes id (seat_id c.loop-rank.seat) 0 (headers_of sizes) told start c.loop-rank.after tried c.loop-rank.policy (view c.loop-rank.seat) k.same (k.walk told start h) rank rank.header
          c.place_for.new.policy (view c.place_for.new.seat) (omega arith) within (omega (arith, below)) (subst L (k.entries ∙ c.requires.entries) c.in-Some.ensures) c.place_for.ensures.one;
    }

pub returns-in-Some-place_for-clause-walk : goal.returns-in-Some-place_for-clause-walk
returns-in-Some-place_for-clause-walk g c told start h =
    let k = c.loop-rank.invariant in
    let files = g.W.World.files in
    let sizes = sizes_of c.args.pool.now in
    let id = seat_id c.args.seat.now in
    let rank = c.in-Some.rank in
    let tried = c.loop-rank.tried in
    let all = c.requires.tried in
    let entries = c.requires.entries in
    let len = k.tried_len in
    let same = k.entries in
    let below = c.in-Some.ensures.among.1 in
    let L : ℕ → Type 0 = λ n. IsLeast (Among 0 n) c.loop-rank.policy.entries c.loop-rank.after (Some rank) in
    let step = victim_step c.ranks_are_ordered.ensures c.none_between.ensures files sizes id (seat_id c.loop-rank.seat) 0 (headers_of sizes) told start c.loop-rank.after tried c.loop-rank.policy (view c.loop-rank.seat) k.same (k.walk told start h) rank rank.header
    c.place_for.new.policy (view c.place_for.new.seat) (omega arith) (omega (arith, all, entries, len, same, below)) (omega (arith, below)) (subst L (k.entries ∙ c.requires.entries) c.in-Some.ensures) c.place_for.ensures.one in
    walk_end files sizes id 0 (headers_of sizes) told start (slice_set tried rank.header true) c.place_for.new.policy (view c.place_for.new.seat) step.walk

pub returns-clause-walk : goal.returns-clause-walk
returns-clause-walk g c told start h =
    let k = c.loop-rank.invariant in
    let sizes = sizes_of c.args.pool.now in
    let L : ℕ → Type 0 = λ n. IsLeast (Among 0 n) c.loop-rank.policy.entries c.loop-rank.after None in
    all_ranked c.ranks_are_ordered.ensures c.none_between.ensures g.W.World.files sizes (seat_id c.args.seat.now) 0 (headers_of sizes) told start c.loop-rank.after c.loop-rank.tried c.loop-rank.policy (view c.loop-rank.seat) (k.walk told start h)
    (subst L (k.entries ∙ c.requires.entries) c.in_default.ensures)

pub returns-in-Some-place_for-clause-few : goal.returns-in-Some-place_for-clause-few
returns-in-Some-place_for-clause-few g c =
    let below = c.in-Some.ensures.among.1 in
    let smaller = walks_on c.walk_ends.ensures.falls c.walk_ends.ensures.forgets c.loop-rank.policy c.place_for.new.policy c.loop-rank.after c.in-Some.rank c.in-Some.ensures (omega (arith, below)) c.place_for.ensures.entries
    c.place_for.ensures.policy in
    let one = c.place_for.ensures.few in
    let was = c.loop-rank.invariant.few in
    let n = c.requires.entries in
    let all = few_above c.args.policy.now.entries None (length c.args.policy.now.entries) in
    omega (arith, smaller, one, was, all, n)

pub returns-clause-few : goal.returns-clause-few
returns-clause-few g c =
    let was = c.loop-rank.invariant.few in
    let n = c.requires.entries in
    let all = few_above c.args.policy.now.entries None (length c.args.policy.now.entries) in
    omega (arith, was, all, n)
