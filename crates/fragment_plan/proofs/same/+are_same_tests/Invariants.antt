use Rattle.std.proofs.Common.{length}
use Rattle.fragment_plan.proofs.same.+are_same_tests.Given as goal

abbrev pub decreases-are_same_tests : goal.decreases-are_same_tests
decreases-are_same_tests l = length l.one.now
