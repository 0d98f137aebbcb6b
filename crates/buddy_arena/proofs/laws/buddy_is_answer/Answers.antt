use Rattle.buddy_arena.proofs.AnswerLemmas.{answer_is}
use Rattle.buddy_arena.proofs.laws.buddy_is_answer.Goals as goal

pub returns : goal.returns
returns c = answer_is
