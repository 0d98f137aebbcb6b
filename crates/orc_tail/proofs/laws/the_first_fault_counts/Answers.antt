use Rattle.orc_tail.proofs.MessageLaws.{types_break_first, footers_break_first, stripe_footers_break_first}
use Rattle.orc_tail.proofs.laws.the_first_fault_counts.Goals as goal

pub returns-clause-types : goal.returns-clause-types
returns-clause-types c = types_break_first

pub returns-clause-footers : goal.returns-clause-footers
returns-clause-footers c = footers_break_first

pub returns-clause-stripe_footers : goal.returns-clause-stripe_footers
returns-clause-stripe_footers c = stripe_footers_break_first
