use Rattle.plan_text.proofs.LinesRead.{fragment_read}
use Rattle.plan_text.proofs.laws.lines_are_read.Goals as goal

pub returns : goal.returns
returns c = fragment_read
