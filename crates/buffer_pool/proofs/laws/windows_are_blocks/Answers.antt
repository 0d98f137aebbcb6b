use Rattle.buffer_pool.proofs.ArenaBlocks.{pool_block}
use Rattle.buffer_pool.proofs.laws.windows_are_blocks.Goals as goal

pub returns : goal.returns
returns c g arena order offset word movable there fits window = pool_block g arena order offset there fits window.candidate.block
