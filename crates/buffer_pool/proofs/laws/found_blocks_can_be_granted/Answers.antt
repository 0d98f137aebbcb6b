use Rattle.std.proofs.Common.{ℕ, sym, subst}
use Rattle.buddy_arena.specs.Block.{IsClear}
use Rattle.buffer_pool.proofs.ArenaBlocks.{offset_is, pool_block}
use Rattle.buffer_pool.proofs.laws.found_blocks_can_be_granted.Goals as goal

pub returns : goal.returns
returns c g arena order offset word there fits answer =
    let found = c.buddy_is_clear_block.ensures 64 word order offset answer in
    let P : ℕ → Type 0 = λ n. IsClear word n order in
    (pool_block g arena order offset there fits found.block, subst P (sym (offset_is arena order offset found.block)) found.clear)
