use Rattle.std.proofs.Common.{length, ◌-◌, ◌*◌}
use Rattle.outside.proofs.varints.+take_open.Given as goal

abbrev pub decreases-take_open : goal.decreases-take_open
decreases-take_open g l = 10 * length l.out.now - l.begun.count
