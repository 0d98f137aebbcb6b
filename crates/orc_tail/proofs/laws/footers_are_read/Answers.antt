use Rattle.orc_tail.proofs.FooterLaws.{footers_are_read, stripe_footers_are_read}
use Rattle.orc_tail.proofs.laws.footers_are_read.Goals as goal

pub returns-clause-footers : goal.returns-clause-footers
returns-clause-footers c = footers_are_read c.messages_are_read.ensures.read c.messages_are_read.ensures.only

pub returns-clause-stripe_footers : goal.returns-clause-stripe_footers
returns-clause-stripe_footers c = stripe_footers_are_read c.messages_are_read.ensures.read c.messages_are_read.ensures.only
