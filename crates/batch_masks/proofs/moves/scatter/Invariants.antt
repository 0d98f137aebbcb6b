use Rattle.std.proofs.Common.{◌≤◌, length}
use Rattle.batch_masks.proofs.Gathering.{Scattering}
use Rattle.batch_masks.proofs.moves.scatter.Given as goal

abbrev pub invariant-loop-row : goal.invariant-loop-row
invariant-loop-row l = record {
  within : l.row ≤ length l.present;
  scattering : Scattering l.present l.fn.mask l.mask l.row l.from;
}

abbrev pub decreases-loop-row : goal.decreases-loop-row
decreases-loop-row l = l.row
