use Rattle.buddy_arena.proofs.MaskLemmas.{set_mask}
use Rattle.buddy_arena.proofs.laws.setting_takes.Goals as goal

pub returns : goal.returns
returns c = set_mask
