use Rattle.std.proofs.Common.{◌≡◌, ℕ, ◌+◌, ◌-◌, ◌*◌, ◌^◌, ◌≤◌}
use Rattle.buddy_arena.proofs.blocks.order_for.Given as goal

abbrev pub invariant-loop-block : goal.invariant-loop-block
invariant-loop-block l = record {
  grown : l.block ≡ l.min_block * 2 ^ l.order;
  small : l.order + 1 ≤ l.block;
  least : (k : ℕ) → l.len ≤ l.min_block * 2 ^ k → l.order ≤ k;
}

abbrev pub decreases-loop-block : goal.decreases-loop-block
decreases-loop-block l = l.len - l.block
