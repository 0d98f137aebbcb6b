use Rattle.buddy_arena.proofs.AnswerLemmas.{answer_clear}
use Rattle.buddy_arena.proofs.laws.buddy_is_clear_block.Goals as goal

pub returns : goal.returns
returns c = answer_clear
