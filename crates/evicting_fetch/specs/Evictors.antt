-- What callers see of what decides evictions.
use Rattle.std.specs.Prelude.{◌≡◌, length}
use Rattle.lrfu_policy.specs.Policy.{Ranking}
use Rattle.pool_rule.specs.Layout.{headers_of}
use Rattle.buffer_pool.specs.declared.pool.Pool.{Pool}
use Rattle.buffer_pool.specs.Pools.{sizes_of}
use Rattle.evicting_fetch.specs.declared.evictor.Evictor.{Evictor}

-- its policy
abbrev pub policy_of : Evictor → Ranking
policy_of evictor = evictor.policy

-- it is for as many headers as the pool has
pub record IsEvictorOf {W : Type 0} (pool : Pool W) (evictor : Evictor) : Type 0 where
  pub entries : length (policy_of evictor).entries ≡ headers_of (sizes_of pool)
  pub tried : length evictor.tried.items ≡ headers_of (sizes_of pool)
