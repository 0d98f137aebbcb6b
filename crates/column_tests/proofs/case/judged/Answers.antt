use Rattle.column_tests.proofs.Cases.{numbers_differ, untold_sized}
use Rattle.column_tests.proofs.case.judged.Goals as goal

pub first_fault-requires-clause-differ : goal.first_fault-requires-clause-differ
first_fault-requires-clause-differ c =
    let e = c.plan_of.ensures in
    numbers_differ c.plan_of.result e.present e.body e.length e.dictionary

pub first_fault-requires-clause-lens : goal.first_fault-requires-clause-lens
first_fault-requires-clause-lens c = λ s tells. untold_sized c.args.feed.now c.plan_of.result s c.plan_of.ensures.body tells
