use Rattle.std.proofs.Common.{◌≡◌, ◌<◌, ℕ, None, get_or}
use Rattle.pool_model.specs.Pool.{grant_covers}
use Rattle.pool_model.proofs.owned.grants_have.Given as goal

abbrev pub invariant-loop-at : goal.invariant-loop-at
invariant-loop-at l = (k : ℕ) → k < l.at → grant_covers l.place k (get_or l.grants k None) ≡ 0
