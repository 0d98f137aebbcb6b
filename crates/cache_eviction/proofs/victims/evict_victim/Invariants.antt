use Rattle.std.proofs.Common.{◌≡◌, ℕ, List, length}
use Rattle.lrfu_policy.specs.Victim.{above_count}
use Rattle.pool_rule.specs.declared.word_step.WordStep.{WordStep}
use Rattle.pool_rule.specs.Seats.{granted_at, mark_at}
use Rattle.buffer_pool.specs.Made.{AreMade}
use Rattle.buffer_pool.specs.Pools.{IsSeatOf, seat_id, sizes_of, view}
use Rattle.cache_eviction.specs.Victims.{Refused}
use Rattle.cache_eviction.proofs.victims.evict_victim.Given as goal

abbrev pub invariant-loop-rank : goal.invariant-loop-rank
invariant-loop-rank g l = record {
  of_pool : IsSeatOf l.pool l.seat;
  same : seat_id l.seat ≡ seat_id l.initial.seat;
  policy : l.policy ≡ l.initial.policy;
  tried : (ss : List WordStep) × AreMade g.W.World.files (sizes_of l.pool) (seat_id l.initial.seat) ss (view l.initial.seat) (view l.seat)
      × Refused l.first l.count l.initial.policy.entries l.after ss;
  marks : (other : ℕ) → mark_at (view l.seat) other ≡ mark_at (view l.initial.seat) other;
  grants : (place : ℕ) → granted_at (view l.seat) place ≡ granted_at (view l.initial.seat) place;
}

abbrev pub decreases-loop-rank : goal.decreases-loop-rank
decreases-loop-rank g l = above_count l.policy.entries l.after (length l.policy.entries)
