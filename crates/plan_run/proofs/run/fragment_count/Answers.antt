use Rattle.std.proofs.Common.{ap, arith, length}
use Rattle.plan_run.proofs.ShortPlans.{plans_are_short}
use Rattle.plan_run.proofs.run.fragment_count.Goals as goal

pub overflow_cast-result : goal.overflow_cast-result
overflow_cast-result c =
    let short = plans_are_short c.args.plan.now c.fragments.ensures.read in
    omega (arith, short, ap length c.fragments.ensures.list)
