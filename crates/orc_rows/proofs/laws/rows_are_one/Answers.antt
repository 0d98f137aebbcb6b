use Rattle.orc_rows.proofs.OneFile as file
use Rattle.orc_rows.proofs.laws.rows_are_one.Goals as goal

pub returns-clause-one : goal.returns-clause-one
returns-clause-one c =
    let law = c.a_column_is_one.ensures in
    file.rows_are_one law.never_both law.one_list law.one_fault

pub returns-clause-one_fault : goal.returns-clause-one_fault
returns-clause-one_fault c =
    let law = c.a_column_is_one.ensures in
    file.the_fault_is_one law.never_both law.one_list law.one_fault

pub returns-clause-never_both : goal.returns-clause-never_both
returns-clause-never_both c =
    let law = c.a_column_is_one.ensures in
    file.never_rows_and_a_fault law.never_both law.one_list law.one_fault
