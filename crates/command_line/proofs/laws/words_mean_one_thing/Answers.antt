use Rattle.command_line.proofs.Meaning.{one_thing}
use Rattle.command_line.proofs.laws.words_mean_one_thing.Goals as goal

pub returns : goal.returns
returns c = one_thing
