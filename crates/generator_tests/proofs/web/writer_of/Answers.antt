use Rattle.generator_tests.proofs.Placed.{specs_are, web_is}
use Rattle.generator_tests.proofs.web.writer_of.Goals as goal

pub new-requires-clause-specs : goal.new-requires-clause-specs
new-requires-clause-specs c = specs_are c.in_ok-columns.columns.items c.in_ok-columns.ensures

pub returns-in-Ok : goal.returns-in-Ok
returns-in-Ok c = (web_is c.in_ok-columns.columns.items _ c.in_ok-columns.ensures c.in-Ok.ensures.columns, c.in-Ok.ensures.fresh)
