use Rattle.fragment_folds.proofs.Cutting.{merged_all-append}
use Rattle.fragment_folds.proofs.laws.merges_join.Goals as goal

pub returns : goal.returns
returns c = merged_all-append
