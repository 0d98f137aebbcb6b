use Rattle.buddy_arena.proofs.BlockLemmas
use Rattle.buddy_arena.proofs.laws.covers_in_arena.Goals as goal

pub returns : goal.returns
returns c = BlockLemmas.covers_in_arena
