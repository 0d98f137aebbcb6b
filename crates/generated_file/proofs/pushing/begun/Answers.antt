use Rattle.generated_file.proofs.Pushed.{specs_are}
use Rattle.generated_file.proofs.pushing.begun.Goals as goal

pub new-requires-clause-specs : goal.new-requires-clause-specs
new-requires-clause-specs c = specs_are c.in_ok-columns.columns.items c.in_ok-columns.ensures
