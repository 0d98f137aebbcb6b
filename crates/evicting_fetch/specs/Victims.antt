-- Which victims a fetch takes, and in which order it tries them. Source: this project's own.
use Rattle.std.specs.Prelude.{Option, Some, None}
use Rattle.buffer_word.specs.declared.key_word.Key.{Key}
use Rattle.pool_model.specs.Content.{Files}
use Rattle.buffer_pool.specs.declared.pool.Pool.{Pool}
use Rattle.buffer_pool.specs.declared.seat.PoolSeat.{PoolSeat}
use Rattle.buffer_pool.specs.Pools.{seat_id, sizes_of, view}
use Rattle.cache_lookup.specs.Sets.{first_way}
use Rattle.cache_placement.specs.declared.why.Why.{Why}
use Rattle.cache_room.specs.Searches.{Ranks}
use Rattle.evicting_fetch.specs.declared.evictor.Evictor.{Evictor}
use Rattle.evicting_fetch.specs.Evictors.{policy_of}
use Rattle.range_cache.specs.declared.ranged.How.{How}
use Rattle.range_cache.specs.declared.ranged.How.TheVariants.{Hit, Filled, Bypass}

-- why a range isn't cached
abbrev pub why_not : How → Option Why
why_not Hit = None
why_not Filled = None
why_not (Bypass why) = Some why

-- By the steps of the call the ways of the key's set were searched, or weren't, and then all headers were, or weren't: each search
-- consults the policy first, and then tries headers in the policy's order. No other step begins an eviction. Where the set is full each
-- way was tried so, and where there is no room each header was. What was released is forgotten.
abbrev pub TakesVictims : {W : Type 0} → Option Files → Pool W → PoolSeat W → PoolSeat W → Key → Evictor → Evictor → How → Type 0
TakesVictims files pool old new key before after how =
    Ranks files (sizes_of pool) (seat_id old) (first_way (sizes_of pool) key) (policy_of before) (policy_of after)
    (view old) (view new) (why_not how)
