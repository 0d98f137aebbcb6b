use Rattle.buddy_arena.proofs.MaskLemmas.{count_shared}
use Rattle.buddy_arena.proofs.laws.mask_counts_taken.Goals as goal

pub returns : goal.returns
returns c = count_shared
