use Rattle.std.proofs.Common.{◌≡◌, ◌&&◌, ℕ, ◌<◌, ◌≤◌, get_or, false}
use Rattle.batch_masks.proofs.narrow.narrow_set.Given as goal

abbrev pub invariant-loop-row : goal.invariant-loop-row
invariant-loop-row l = record {
  done : (k : ℕ) → k < l.row → get_or l.mask k false ≡ (get_or l.fn.mask k false && get_or l.flags k false);
  rest : (k : ℕ) → l.row ≤ k → get_or l.mask k false ≡ get_or l.fn.mask k false;
}
