-- A block of an arena is one of the pool's.
use Rattle.std.proofs.Common.{◌≡◌, ℕ, zero, suc, ◌+◌, ◌*◌, ◌%◌, ◌^◌, ◌<◌, ◌≤◌, arith, div-add-mod'}
use Rattle.std.proofs.lemmas.Nat.{pow_pos}
use Rattle.buddy_arena.specs.Block.{around, IsBlock}
use Rattle.pool_rule.specs.declared.geometry.Geometry.{Geometry}
use Rattle.pool_rule.specs.Layout.{IsBlockIn}
use Rattle.buffer_pool.specs.Pools.{block_at}

aligned : (place order : ℕ) → around place order ≡ place → place % 2 ^ order ≡ 0
aligned place order e = let d = div-add-mod' place (2 ^ order) in omega (arith, d, e)

-- an arena is a multiple of each block's size
in_arena : (arena offset order : ℕ) → order ≤ 6 → offset % 2 ^ order ≡ 0 → (64 * arena + offset) % 2 ^ order ≡ 0
in_arena arena offset zero fits e = omega arith
in_arena arena offset (suc zero) fits e = omega (arith, e)
in_arena arena offset (suc (suc zero)) fits e = omega (arith, e)
in_arena arena offset (suc (suc (suc zero))) fits e = omega (arith, e)
in_arena arena offset (suc (suc (suc (suc zero)))) fits e = omega (arith, e)
in_arena arena offset (suc (suc (suc (suc (suc zero))))) fits e = omega (arith, e)
in_arena arena offset (suc (suc (suc (suc (suc (suc zero)))))) fits e = omega (arith, e)
in_arena arena offset (suc (suc (suc (suc (suc (suc (suc order))))))) fits e = absurd (omega (arith, fits))

pub pool_block : (g : Geometry) (arena order offset : ℕ) → arena < g.arenas → order ≤ 6 → IsBlock 64 offset order → IsBlockIn g (block_at (64 * arena + offset) order)
pool_block g arena order offset there fits b =
    let end = b.inside in
    let size = pow_pos order in
    record { order_fits = fits; aligned = in_arena arena offset order fits (aligned offset order b.aligned); inside = omega (arith, there, end, size) }

pub offset_is : (arena order offset : ℕ) → IsBlock 64 offset order → (64 * arena + offset) % 64 ≡ offset
offset_is arena order offset b = let end = b.inside in let size = pow_pos order in omega (arith, end, size)
