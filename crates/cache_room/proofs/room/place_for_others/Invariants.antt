use Rattle.std.proofs.Common.{◌≡◌, ◌+◌, ◌<◌, ◌≤◌, ℕ, true, false, length}
use Rattle.std.specs.Prelude.{slice_index_or}
use Rattle.lrfu_policy.specs.Policy.{Ranking}
use Rattle.pool_rule.specs.declared.view.View.{View}
use Rattle.pool_rule.specs.Layout.{headers_of}
use Rattle.buffer_pool.specs.Pools.{IsSeatOf, seat_id, sizes_of, view}
use Rattle.cache_eviction.specs.Order.{IsWalkOn}
use Rattle.cache_room.specs.Rooms.{HeadersTried}
use Rattle.cache_room.proofs.room.place_for_others.Given as goal

abbrev pub invariant-loop-header : goal.invariant-loop-header
invariant-loop-header g l = record {
  of_pool : IsSeatOf l.pool l.seat;
  same : seat_id l.seat ≡ seat_id l.initial.seat;
  entries : length l.policy.entries ≡ length l.initial.policy.entries;
  tried_len : length l.tried ≡ length l.initial.tried;
  done : (header : ℕ) → header < l.header → slice_index_or l.tried header false ≡ true;
  few : l.evicted ≤ l.initial.evicted + l.header;
  left : (start : View) → HeadersTried g.W.World.files (sizes_of l.pool) (seat_id l.initial.seat) l.wanted.key start l.initial.tried l.initial.evicted (view l.initial.seat)
      → HeadersTried g.W.World.files (sizes_of l.pool) (seat_id l.initial.seat) l.wanted.key start l.tried l.evicted (view l.seat);
  walk : (told : Ranking) (start : View) → IsWalkOn g.W.World.files (sizes_of l.pool) (seat_id l.initial.seat) 0 (headers_of (sizes_of l.pool)) told start l.initial.tried l.initial.policy (view l.initial.seat)
      → IsWalkOn g.W.World.files (sizes_of l.pool) (seat_id l.initial.seat) 0 (headers_of (sizes_of l.pool)) told start l.tried l.policy (view l.seat);
}
