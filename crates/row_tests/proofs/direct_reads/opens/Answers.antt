use Rattle.row_tests.specs.StripeWorld.{is_readable}
use Rattle.row_tests.proofs.direct_reads.opens.Goals as goal

pub open_column-requires-clause-readable : goal.open_column-requires-clause-readable
open_column-requires-clause-readable c = is_readable
