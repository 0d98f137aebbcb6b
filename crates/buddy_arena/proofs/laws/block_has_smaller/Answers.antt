use Rattle.buddy_arena.proofs.BlockLemmas.{smaller_block}
use Rattle.buddy_arena.proofs.laws.block_has_smaller.Goals as goal

pub returns : goal.returns
returns c = smaller_block
