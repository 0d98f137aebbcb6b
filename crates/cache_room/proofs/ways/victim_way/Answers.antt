use Rattle.std.proofs.Common.{◌≡◌, ◌-◌, ◌<◌, true, length, sym, ap, ◌∙◌, subst, arith}
use Rattle.std.specs.Prelude.{Some, slice_set}
use Rattle.std.proofs.lemmas.List.{length-set}
use Rattle.lrfu_policy.specs.Policy.{Ranking}
use Rattle.lrfu_policy.specs.Victim.{above_count}
use Rattle.cache_eviction.specs.OrderLaws.{all_ranked, walk_end}
use Rattle.pool_rule.specs.Layout.{headers_of}
use Rattle.buffer_pool.specs.Pools.{seat_id, sizes_of, view}
use Rattle.cache_room.proofs.Trials.{way_gone, way_held}
use Rattle.cache_room.proofs.Walks.{victim_step}
use Rattle.cache_room.proofs.ways.victim_way.Goals as goal

pub returns-in-Ok-clause-left : goal.returns-in-Ok-clause-left
returns-in-Ok-clause-left g c key start h =
    let k = c.loop-rank.invariant in
    let among = c.in-Some.ensures.among in
    let from = among.0 in
    let below = among.1 in
    way_gone g.W.World.files (sizes_of c.args.pool.now) (seat_id c.args.seat.now) key c.args.first c.requires.set start c.loop-rank.seen c.loop-rank.tried k.seen_len k.tried_len (seat_id c.loop-rank.seat) k.same c.in-Some.rank.header (c.in-Some.rank.header - c.args.first)
    (omega (arith, from)) (omega (arith, from, below)) (view c.loop-rank.seat) (view c.try_header.new.seat) (k.left key start h) c.try_header.ensures.marks c.try_header.ensures.grants c.in-Ok.field-0 c.in-Ok.ensures.tries

pub loop-rank-smaller : goal.loop-rank-smaller
loop-rank-smaller g c =
    let k = c.loop-rank.invariant in
    let entries = c.loop-rank.policy.entries in
    let after = c.loop-rank.after in
    let rank = c.in-Some.rank in
    let e : length entries ≡ headers_of (sizes_of c.args.pool.now) = ap (λ (p : Ranking). length p.entries) k.policy ∙ c.requires.entries in
    let set = c.requires.set in
    let Q : Ranking → Type 0 = λ p. above_count p.entries (Some rank) (length p.entries) < above_count entries after (length entries) in
    subst Q (sym c.in-Err.ensures.kept) (c.walk_ends.ensures.falls c.args.first 8 (length entries) entries after rank (omega (arith, e, set)) c.in-Some.ensures)

pub loop-rank-preserved : goal.loop-rank-preserved
loop-rank-preserved g c =
    let k = c.loop-rank.invariant in
    let more = c.try_header.ensures in
    let among = c.in-Some.ensures.among in
    let from = among.0 in
    let below = among.1 in
    let marks_len = k.tried_len in
    let set = c.requires.set in
    let entries : length c.loop-rank.policy.entries ≡ headers_of (sizes_of c.args.pool.now) = ap (λ (p : Ranking). length p.entries) k.policy ∙ c.requires.entries in
    record {
      of_pool = more.seat.of_pool;
      same = more.seat.same ∙ k.same;
      policy = c.in-Err.ensures.kept ∙ k.policy;
      seen_len = length-set c.loop-rank.seen (c.in-Some.rank.header - c.args.first) c.in-Err.held.word ∙ k.seen_len;
      tried_len = length-set c.loop-rank.tried (c.in-Some.rank.header - c.args.first) true ∙ k.tried_len;
      left = λ key start h.
          way_held g.W.World.files (sizes_of c.args.pool.now) (seat_id c.args.seat.now) key c.args.first c.requires.set start c.loop-rank.seen c.loop-rank.tried k.seen_len k.tried_len (seat_id c.loop-rank.seat) k.same c.in-Some.rank.header (c.in-Some.rank.header - c.args.first)
          (omega (arith, from)) (omega (arith, from, below)) (view c.loop-rank.seat) (view c.try_header.new.seat) (k.left key start h) more.marks more.grants c.in-Err.held c.in-Err.ensures.tries;
      walk = λ told start h.
          victim_step c.ranks_are_ordered.ensures c.none_between.ensures g.W.World.files (sizes_of c.args.pool.now) (seat_id c.args.seat.now) (seat_id c.loop-rank.seat) c.args.first 8 told start c.loop-rank.after c.loop-rank.tried c.loop-rank.policy
          (view c.loop-rank.seat) k.same (k.walk told start h) c.in-Some.rank (c.in-Some.rank.header - c.args.first) c.try_header.new.policy (view c.try_header.new.seat) (omega (arith, from)) (omega (arith, from, below, marks_len))
          (omega (arith, below, set, entries)) c.in-Some.ensures more.one;
    }

pub returns-in-Ok-clause-walk : goal.returns-in-Ok-clause-walk
returns-in-Ok-clause-walk g c told start h =
    let k = c.loop-rank.invariant in
    let files = g.W.World.files in
    let sizes = sizes_of c.args.pool.now in
    let id = seat_id c.args.seat.now in
    let rank = c.in-Some.rank in
    let among = c.in-Some.ensures.among in
    let from = among.0 in
    let below = among.1 in
    let marks_len = k.tried_len in
    let set = c.requires.set in
    let entries : length c.loop-rank.policy.entries ≡ headers_of sizes = ap (λ (p : Ranking). length p.entries) k.policy ∙ c.requires.entries in
    let step = victim_step c.ranks_are_ordered.ensures c.none_between.ensures files sizes id (seat_id c.loop-rank.seat) c.args.first 8 told start c.loop-rank.after c.loop-rank.tried c.loop-rank.policy (view c.loop-rank.seat) k.same (k.walk told start h) rank
    (rank.header - c.args.first) c.try_header.new.policy (view c.try_header.new.seat) (omega (arith, from)) (omega (arith, from, below, marks_len)) (omega (arith, below, set, entries)) c.in-Some.ensures c.try_header.ensures.one in
    walk_end files sizes id c.args.first 8 told start (slice_set c.loop-rank.tried (rank.header - c.args.first) true) c.try_header.new.policy (view c.try_header.new.seat) step.walk

pub returns-clause-walk : goal.returns-clause-walk
returns-clause-walk g c told start h =
    all_ranked c.ranks_are_ordered.ensures c.none_between.ensures g.W.World.files (sizes_of c.args.pool.now) (seat_id c.args.seat.now) c.args.first 8 told start c.loop-rank.after c.loop-rank.tried c.loop-rank.policy (view c.loop-rank.seat) (c.loop-rank.invariant.walk told start h) c.in_default.ensures
