use Rattle.std.proofs.Common.{take}
use Rattle.orc_integers.specs.InPlace.{IntegersIn}
use Rattle.orc_integers.proofs.in_place.few_in.Given as goal

abbrev pub invariant-loop-value : goal.invariant-loop-value
invariant-loop-value l = IntegersIn l.signed l.bytes (take l.value-index l.into) l.left
