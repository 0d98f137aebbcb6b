use Rattle.scan_columns.proofs.ReadOnce.{read_once}
use Rattle.scan_columns.proofs.laws.columns_are_read_once.Goals as goal

pub returns : goal.returns
returns c = read_once
