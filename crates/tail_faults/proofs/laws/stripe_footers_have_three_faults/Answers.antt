use Rattle.tail_faults.proofs.FaultsOfBytes as faults
use Rattle.tail_faults.proofs.laws.stripe_footers_have_three_faults.Goals as goal

pub returns : goal.returns
returns c = faults.stripe_footers_have_three_faults
