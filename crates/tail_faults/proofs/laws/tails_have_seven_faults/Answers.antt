use Rattle.tail_faults.proofs.FaultsOfBytes as faults
use Rattle.tail_faults.proofs.laws.tails_have_seven_faults.Goals as goal

pub returns : goal.returns
returns c = faults.tails_have_seven_faults
