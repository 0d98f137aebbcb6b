-- What callers see of a cache.
use Rattle.std.specs.Prelude.{ℕ}
use Rattle.buffer_pool.specs.declared.pool.Pool.{Pool}
use Rattle.range_cache.specs.declared.cache.Cache.{Cache}

-- its pool
abbrev pub pool_of : {W : Type 0} → Cache W → Pool W
pool_of cache = cache.pool

-- the half-life that it was made with
abbrev pub half_life_of : {W : Type 0} → Cache W → ℕ
half_life_of cache = cache.half_life
