use Rattle.std.proofs.Common.{◌≡◌, ◌≤◌, ◌<◌, ℕ}
use Rattle.pool_model.specs.Pool.{owners}
use Rattle.pool_model.proofs.pool.PlainPool.is_free.Given as goal

abbrev pub invariant-loop-place : goal.invariant-loop-place
invariant-loop-place l = (k : ℕ) → l.first ≤ k → k < l.place → owners l.self k ≡ 0
