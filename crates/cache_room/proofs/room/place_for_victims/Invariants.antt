use Rattle.std.proofs.Common.{◌≡◌, ◌+◌, ◌≤◌, length}
use Rattle.std.specs.Prelude.{None}
use Rattle.lrfu_policy.specs.Policy.{Ranking}
use Rattle.lrfu_policy.specs.Victim.{above_count}
use Rattle.pool_rule.specs.Layout.{headers_of}
use Rattle.pool_rule.specs.declared.view.View.{View}
use Rattle.buffer_pool.specs.Pools.{IsSeatOf, seat_id, sizes_of, view}
use Rattle.cache_eviction.specs.Order.{IsVictimWalk}
use Rattle.cache_room.specs.Rooms.{HeadersTried}
use Rattle.cache_room.proofs.room.place_for_victims.Given as goal

abbrev pub invariant-loop-rank : goal.invariant-loop-rank
invariant-loop-rank g l = record {
  of_pool : IsSeatOf l.pool l.seat;
  same : seat_id l.seat ≡ seat_id l.initial.seat;
  entries : length l.policy.entries ≡ length l.initial.policy.entries;
  tried_len : length l.tried ≡ length l.initial.tried;
  few : l.evicted + above_count l.policy.entries l.after (length l.policy.entries) ≤ l.initial.evicted + above_count l.initial.policy.entries None (length l.initial.policy.entries);
  left : (start : View) → HeadersTried g.W.World.files (sizes_of l.pool) (seat_id l.initial.seat) l.wanted.key start l.initial.tried l.initial.evicted (view l.initial.seat)
      → HeadersTried g.W.World.files (sizes_of l.pool) (seat_id l.initial.seat) l.wanted.key start l.tried l.evicted (view l.seat);
  walk : (told : Ranking) (start : View) → IsVictimWalk g.W.World.files (sizes_of l.pool) (seat_id l.initial.seat) 0 (headers_of (sizes_of l.pool)) told start None l.initial.tried l.initial.policy (view l.initial.seat)
      → IsVictimWalk g.W.World.files (sizes_of l.pool) (seat_id l.initial.seat) 0 (headers_of (sizes_of l.pool)) told start l.after l.tried l.policy (view l.seat);
}

abbrev pub decreases-loop-rank : goal.decreases-loop-rank
decreases-loop-rank g l = above_count l.policy.entries l.after (length l.policy.entries)
