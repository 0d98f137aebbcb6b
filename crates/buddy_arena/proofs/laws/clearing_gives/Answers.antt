use Rattle.buddy_arena.proofs.MaskLemmas.{clear_mask}
use Rattle.buddy_arena.proofs.laws.clearing_gives.Goals as goal

pub returns : goal.returns
returns c = clear_mask
