use Rattle.fold_meaning.proofs.Meant.{meant}
use Rattle.fold_meaning.proofs.laws.a_fold_answers_what_is_meant.Goals as goal

pub returns : goal.returns
returns c = meant c.counts_are_of_the_list.ensures.counts
