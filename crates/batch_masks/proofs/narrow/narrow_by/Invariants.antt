use Rattle.std.proofs.Common.{◌≡◌, ◌&&◌, ℕ, ◌<◌, ◌≤◌, get_or, map, false}
use Rattle.batch_masks.proofs.narrow.narrow_by.Given as goal

abbrev pub invariant-loop-place : goal.invariant-loop-place
invariant-loop-place g l = record {
  done : (k : ℕ) → k < l.place → get_or l.mask k false ≡ (get_or l.fn.mask k false && get_or (map (λ n. g.C.Compare.compares n l.literal) l.values) k false);
  rest : (k : ℕ) → l.place ≤ k → get_or l.mask k false ≡ get_or l.fn.mask k false;
}
