use Rattle.std.proofs.Common.{◌-◌, ◌≤◌, length, take}
use Rattle.orc_integers.specs.InPlace.{IntegersIn}
use Rattle.orc_integers.proofs.in_place.integers_of.Given as goal

abbrev pub invariant-loop-done : goal.invariant-loop-done
invariant-loop-done l = record {
  within : l.done ≤ length l.into;
  read : IntegersIn l.signed l.bytes (take l.done l.into) l.left;
}

abbrev pub decreases-loop-done : goal.decreases-loop-done
decreases-loop-done l = length l.into - l.done
