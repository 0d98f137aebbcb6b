use Rattle.row_bounds.proofs.StripeRows as stripes
use Rattle.row_bounds.proofs.laws.stripes_are_bounded.Goals as goal

pub returns-clause-one : goal.returns-clause-one
returns-clause-one c = stripes.stripes_are_bounded c.columns_are_bounded.ensures

pub returns-clause-together : goal.returns-clause-together
returns-clause-together c = stripes.stripes_together c.columns_are_bounded.ensures
