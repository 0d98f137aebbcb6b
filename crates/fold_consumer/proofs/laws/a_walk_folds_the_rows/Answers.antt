use Rattle.fold_consumer.proofs.Joining.{walks_fold}
use Rattle.fold_consumer.proofs.laws.a_walk_folds_the_rows.Goals as goal

pub returns : goal.returns
returns c = walks_fold c.any_cutting_is_one_fold.ensures
