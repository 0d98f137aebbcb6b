use Rattle.outside_tests.specs.ToldWorld.{second_is_file}
use Rattle.outside_tests.proofs.stores.read_second.Goals as goal

pub read-requires-clause-is_file : goal.read-requires-clause-is_file
read-requires-clause-is_file g c = second_is_file
