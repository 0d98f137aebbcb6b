use Rattle.std.proofs.Common.{◌-◌}
use Rattle.cache_placement.proofs.arenas.+ask.Given as goal

abbrev pub decreases-ask : goal.decreases-ask
decreases-ask g l = l.until - l.arena
