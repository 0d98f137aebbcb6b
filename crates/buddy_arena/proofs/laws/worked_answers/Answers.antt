use Rattle.std.proofs.Common.{refl}
use Rattle.buddy_arena.specs.Buddy.{is_clear_block, is_free_block, lowest_free, buddy_among, buddy_answer}
use Rattle.buddy_arena.proofs.laws.worked_answers.Goals as goal

pub returns : goal.returns
unfolding is_clear_block is_free_block lowest_free buddy_among buddy_answer
returns c = (refl, refl, refl, refl, refl)
