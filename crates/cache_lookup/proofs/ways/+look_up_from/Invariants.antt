use Rattle.std.proofs.Common.{◌-◌}
use Rattle.cache_lookup.proofs.ways.+look_up_from.Given as goal

abbrev pub decreases-look_up_from : goal.decreases-look_up_from
decreases-look_up_from g l = 8 - l.way
