use Rattle.plan_meaning.proofs.Outcomes.{plans_have_outcomes, outcomes_of_plans_are_one}
use Rattle.plan_meaning.proofs.laws.a_plan_has_one_list_of_outcomes.Goals as goal

pub returns-clause-some : goal.returns-clause-some
returns-clause-some c = plans_have_outcomes c.a_scan_has_one_outcome.ensures.some

pub returns-clause-one : goal.returns-clause-one
returns-clause-one c = outcomes_of_plans_are_one c.a_scan_has_one_outcome.ensures.one
