use Rattle.orc_columns.proofs.EitherColumn.{column_either}
use Rattle.orc_columns.proofs.laws.a_column_has_values_or_a_fault.Goals as goal

pub returns : goal.returns
returns c = column_either c.every_stream_is_decided.ensures.bits c.every_stream_is_decided.ensures.integers c.every_stream_is_decided-2.ensures
