use Rattle.fragment_plan.proofs.test_reader.+read_more_tests.Given as goal

abbrev pub decreases-read_more_tests : goal.decreases-read_more_tests
decreases-read_more_tests l = l.room
