use Rattle.std.proofs.Common.{◌≡◌, ◌&&◌, ℕ, ◌<◌, ◌≤◌, get_or, map, false, if◌then◌else◌}
use Rattle.std.specs.Ordering.{nat_cmp, is_eq}
use Rattle.std.specs.Cmp.Lexicographic.{slice_cmp}
use Rattle.orc_values.specs.Texts.{start_of}
use Rattle.batch_masks.proofs.narrow.narrow_same.Given as goal

abbrev pub invariant-loop-place : goal.invariant-loop-place
invariant-loop-place l = record {
  begins : l.start ≡ start_of 0 l.cut l.place;
  done : (k : ℕ) → k < l.place → get_or l.mask k false ≡ (get_or l.fn.mask k false && get_or (map (λ t. if is_eq (slice_cmp nat_cmp t l.literal) then l.of_same else l.of_other) l.values) k false);
  rest : (k : ℕ) → l.place ≤ k → get_or l.mask k false ≡ get_or l.fn.mask k false;
}
