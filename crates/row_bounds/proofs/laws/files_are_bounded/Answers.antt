use Rattle.row_bounds.proofs.ManyRows as many
use Rattle.row_bounds.proofs.laws.files_are_bounded.Goals as goal

pub returns-clause-stripes : goal.returns-clause-stripes
returns-clause-stripes c = many.files_are_bounded c.stripes_are_bounded.ensures.together

pub returns-clause-tails : goal.returns-clause-tails
returns-clause-tails c = many.tails_are_bounded c.stripes_are_bounded.ensures.together
