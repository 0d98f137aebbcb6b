use Rattle.buddy_arena.proofs.BlockLemmas
use Rattle.buddy_arena.proofs.laws.block_in_arena.Goals as goal

pub returns : goal.returns
returns c = BlockLemmas.block_in_arena
