use Rattle.fragment_folds.proofs.Cutting.{folded-append}
use Rattle.fragment_folds.proofs.laws.any_cutting_is_one_fold.Goals as goal

pub returns : goal.returns
returns c = folded-append
