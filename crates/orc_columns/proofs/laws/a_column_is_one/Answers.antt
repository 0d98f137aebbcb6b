use Rattle.orc_columns.proofs.OneColumn as column
use Rattle.orc_columns.proofs.laws.a_column_is_one.Goals as goal

pub returns-clause-never_both : goal.returns-clause-never_both
returns-clause-never_both c = column.never_both c.runs_are_read.ensures.bits (column.both_int_runs c.runs_are_read.ensures.integers c.runs_are_read-2.ensures)

pub returns-clause-one_list : goal.returns-clause-one_list
returns-clause-one_list c = column.one_list c.runs_are_read.ensures.bits (column.both_int_runs c.runs_are_read.ensures.integers c.runs_are_read-2.ensures)

pub returns-clause-one_fault : goal.returns-clause-one_fault
returns-clause-one_fault c = column.one_fault c.runs_are_read.ensures.bits (column.both_int_runs c.runs_are_read.ensures.integers c.runs_are_read-2.ensures)
