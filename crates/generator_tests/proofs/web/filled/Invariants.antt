use Rattle.orc_writer.specs.Writing.{shapes}
use Rattle.generator_tests.specs.Web.{IsWeb}
use Rattle.generator_tests.proofs.web.filled.Given as goal

abbrev pub invariant-loop-index : goal.invariant-loop-index
invariant-loop-index l = IsWeb (shapes l.writer)
