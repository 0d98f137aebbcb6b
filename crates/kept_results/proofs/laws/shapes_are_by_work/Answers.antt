use Rattle.kept_results.proofs.Works.{shape_by_work}
use Rattle.kept_results.proofs.laws.shapes_are_by_work.Goals as goal

pub returns : goal.returns
returns c = shape_by_work
