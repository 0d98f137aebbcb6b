use Rattle.column_tests.proofs.Cases.{numbers_differ, untold_sized}
use Rattle.column_tests.proofs.case.read_column.Goals as goal

pub start-requires-clause-differ : goal.start-requires-clause-differ
start-requires-clause-differ c =
    let e = c.plan_of.ensures in
    numbers_differ c.plan_of.result e.present e.body e.length e.dictionary

pub start-requires-clause-lens : goal.start-requires-clause-lens
start-requires-clause-lens c = λ s tells. untold_sized c.args.feed.now c.plan_of.result s c.plan_of.ensures.body tells
