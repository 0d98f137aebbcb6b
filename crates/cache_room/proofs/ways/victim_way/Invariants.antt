use Rattle.std.proofs.Common.{◌≡◌, length}
use Rattle.std.specs.Prelude.{None}
use Rattle.buffer_word.specs.declared.key_word.Key.{Key}
use Rattle.lrfu_policy.specs.Policy.{Ranking}
use Rattle.lrfu_policy.specs.Victim.{above_count}
use Rattle.pool_rule.specs.declared.view.View.{View}
use Rattle.buffer_pool.specs.Pools.{IsSeatOf, seat_id, sizes_of, view}
use Rattle.cache_eviction.specs.Order.{IsVictimWalk}
use Rattle.cache_room.specs.Rooms.{WaysTried}
use Rattle.cache_room.proofs.ways.victim_way.Given as goal

abbrev pub invariant-loop-rank : goal.invariant-loop-rank
invariant-loop-rank g l = record {
  of_pool : IsSeatOf l.pool l.seat;
  same : seat_id l.seat ≡ seat_id l.initial.seat;
  policy : l.policy ≡ l.initial.policy;
  seen_len : length l.seen ≡ 8;
  tried_len : length l.tried ≡ 8;
  left : (key : Key) (start : View) → WaysTried g.W.World.files (sizes_of l.pool) (seat_id l.initial.seat) key l.first start l.initial.seen l.initial.tried (view l.initial.seat)
      → WaysTried g.W.World.files (sizes_of l.pool) (seat_id l.initial.seat) key l.first start l.seen l.tried (view l.seat);
  walk : (told : Ranking) (start : View) → IsVictimWalk g.W.World.files (sizes_of l.pool) (seat_id l.initial.seat) l.first 8 told start None l.initial.tried l.initial.policy (view l.initial.seat)
      → IsVictimWalk g.W.World.files (sizes_of l.pool) (seat_id l.initial.seat) l.first 8 told start l.after l.tried l.policy (view l.seat);
}

abbrev pub decreases-loop-rank : goal.decreases-loop-rank
decreases-loop-rank g l = above_count l.policy.entries l.after (length l.policy.entries)
