use Rattle.row_bounds.proofs.EachColumn as each
use Rattle.row_bounds.proofs.laws.rows_are_in_each_column.Goals as goal

pub returns-clause-stripe : goal.returns-clause-stripe
returns-clause-stripe c = each.a_stripe_is_in_each_column

pub returns-clause-stripes : goal.returns-clause-stripes
returns-clause-stripes c = each.rows_are_in_each_column
