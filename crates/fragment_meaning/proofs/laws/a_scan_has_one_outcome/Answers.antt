use Rattle.fragment_meaning.proofs.OneOutcome.{outcomes_are_one, scans_have_outcomes}
use Rattle.fragment_meaning.proofs.laws.a_scan_has_one_outcome.Goals as goal

pub returns-clause-some : goal.returns-clause-some
returns-clause-some c = scans_have_outcomes c.stripes_have_rows_or_a_fault.ensures

pub returns-clause-one : goal.returns-clause-one
returns-clause-one c =
    let law = c.rows_are_one.ensures in
    outcomes_are_one law.one law.one_fault law.never_both
