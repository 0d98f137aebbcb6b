use Rattle.std.proofs.Common.{◌≡◌, ◌&&◌, ℕ, ◌<◌, ◌≤◌, get_or, false}
use Rattle.orc_values.specs.declared.value.Value.TheVariants as value
use Rattle.batch_masks.specs.Checks.{holds_of}
use Rattle.batch_masks.proofs.chosen.compare_each.Given as goal

abbrev pub invariant-loop-place : goal.invariant-loop-place
invariant-loop-place l = record {
  done : (k : ℕ) → k < l.place → get_or l.mask k false ≡ (get_or l.fn.mask k false && get_or (holds_of (λ t. value.Text t) l.op l.literal l.values) k false);
  rest : (k : ℕ) → l.place ≤ k → get_or l.mask k false ≡ get_or l.fn.mask k false;
}
