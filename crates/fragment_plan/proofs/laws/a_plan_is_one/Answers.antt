use Rattle.fragment_plan.proofs.OneReading.{one_plan, one_fault, never_both}
use Rattle.fragment_plan.proofs.laws.a_plan_is_one.Goals as goal

pub returns : goal.returns
returns c = record {
  plan = λ bytes one two e f. one_plan _ one two e f;
  fault = λ bytes one two e f. one_fault _ one two e f;
  never_both = λ bytes plan fault e f. never_both _ plan fault e f;
}
