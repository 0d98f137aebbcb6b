use Rattle.std.proofs.Common.{ℕ, ◌^◌, ◌<◌, ◌≤◌}
use Rattle.buddy_arena.specs.Buddy.{IsClearBlock, IsFree}
use Rattle.buddy_arena.specs.Sets.{IsSetOf}
use Rattle.buddy_arena.proofs.free_blocks.find.Given as goal

abbrev pub invariant-loop-size : goal.invariant-loop-size
invariant-loop-size l = record {
  fits : l.clear < 2 ^ 64;
  set : IsSetOf l.clear (λ p. IsClearBlock 64 l.word p l.size);
  smaller : (p k : ℕ) → IsFree 64 l.word p k → l.order ≤ k → l.size ≤ k;
}
