-- Laws for those who look for a block in an arena's word and grant it.
use Rattle.std.specs.Prelude.{ℕ, ◌+◌, ◌*◌, ◌%◌, ◌<◌, ◌≤◌, Some}
use Rattle.buddy_arena.specs.Block.{IsClear}
use Rattle.buddy_arena.specs.Buddy.{IsBuddyAnswer}
use Rattle.buddy_arena.specs.Window.{IsWindow}
use Rattle.pool_rule.specs.declared.geometry.Geometry.{Geometry}
use Rattle.pool_rule.specs.Layout.{IsBlockIn, greatest_order}
use Rattle.buffer_pool.specs.Pools.{block_at}

-- an answer of `find` is a block of the pool at 64 * arena + offset, and clear in the word
abbrev pub FoundBlocksCanBeGranted : Type 0
FoundBlocksCanBeGranted =
    (g : Geometry) (arena order offset word : ℕ) → arena < g.arenas → order ≤ greatest_order → IsBuddyAnswer 64 word order (Some offset) →
    IsBlockIn g (block_at (64 * arena + offset) order) × IsClear word ((64 * arena + offset) % 64) order

-- and so is one of `window`, though not clear
abbrev pub WindowsAreBlocks : Type 0
WindowsAreBlocks =
    (g : Geometry) (arena order offset word movable : ℕ) → arena < g.arenas → order ≤ greatest_order
    → IsWindow 64 word movable order (Some offset) →
    IsBlockIn g (block_at (64 * arena + offset) order)
