use Rattle.std.proofs.Common.{◌-◌}
use Rattle.eviction_tests.proofs.full.+is_refused_with.Given as goal

abbrev pub decreases-is_refused_with : goal.decreases-is_refused_with
decreases-is_refused_with l = 8 - l.way
