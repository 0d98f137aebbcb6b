use Rattle.std.proofs.Common.{◌≡◌, ◌<◌, ℕ, true, false, length}
use Rattle.std.specs.Prelude.{slice_index_or}
use Rattle.buffer_word.specs.declared.key_word.Key.{Key}
use Rattle.lrfu_policy.specs.Policy.{Ranking}
use Rattle.pool_rule.specs.declared.view.View.{View}
use Rattle.buffer_pool.specs.Pools.{IsSeatOf, seat_id, sizes_of, view}
use Rattle.cache_eviction.specs.Order.{IsWalkOn}
use Rattle.cache_room.specs.Rooms.{WaysTried}
use Rattle.cache_room.proofs.ways.other_way.Given as goal

abbrev pub invariant-loop-way : goal.invariant-loop-way
invariant-loop-way g l = record {
  of_pool : IsSeatOf l.pool l.seat;
  same : seat_id l.seat ≡ seat_id l.initial.seat;
  entries : length l.policy.entries ≡ length l.initial.policy.entries;
  seen_len : length l.seen ≡ 8;
  tried_len : length l.tried ≡ 8;
  done : (way : ℕ) → way < l.way → slice_index_or l.tried way false ≡ true;
  left : (key : Key) (start : View) → WaysTried g.W.World.files (sizes_of l.pool) (seat_id l.initial.seat) key l.first start l.initial.seen l.initial.tried (view l.initial.seat)
      → WaysTried g.W.World.files (sizes_of l.pool) (seat_id l.initial.seat) key l.first start l.seen l.tried (view l.seat);
  walk : (told : Ranking) (start : View) → IsWalkOn g.W.World.files (sizes_of l.pool) (seat_id l.initial.seat) l.first 8 told start l.initial.tried l.initial.policy (view l.initial.seat)
      → IsWalkOn g.W.World.files (sizes_of l.pool) (seat_id l.initial.seat) l.first 8 told start l.tried l.policy (view l.seat);
}
