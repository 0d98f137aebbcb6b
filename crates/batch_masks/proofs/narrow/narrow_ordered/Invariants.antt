use Rattle.std.proofs.Common.{◌≡◌, ◌&&◌, ℕ, ◌<◌, ◌≤◌, get_or, map, false}
use Rattle.std.specs.Ordering.{nat_cmp}
use Rattle.std.specs.Cmp.Lexicographic.{slice_cmp}
use Rattle.batch_masks.specs.Checks.{satisfies}
use Rattle.batch_masks.proofs.narrow.narrow_ordered.Given as goal

abbrev pub invariant-loop-place : goal.invariant-loop-place
invariant-loop-place l = record {
  done : (k : ℕ) → k < l.place → get_or l.mask k false ≡ (get_or l.fn.mask k false && get_or (map (λ t. satisfies l.op (slice_cmp nat_cmp t l.literal)) l.values) k false);
  rest : (k : ℕ) → l.place ≤ k → get_or l.mask k false ≡ get_or l.fn.mask k false;
}
