use Rattle.empty_scans.proofs.EmptyScans as empty
use Rattle.empty_scans.proofs.laws.scans_without_columns_count.Goals as goal

pub returns-clause-rows : goal.returns-clause-rows
returns-clause-rows c = empty.rows_have_columns

pub returns-clause-empty : goal.returns-clause-empty
returns-clause-empty c = empty.scans_without_columns_count c.plans_are_in_bounds.ensures
