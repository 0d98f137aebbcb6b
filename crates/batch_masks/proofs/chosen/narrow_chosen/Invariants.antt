use Rattle.std.proofs.Common.{◌≡◌, ◌&&◌, ℕ, ◌<◌, ◌≤◌, get_or, map, false}
use Rattle.orc_values.specs.Chosen.{places_of}
use Rattle.batch_masks.proofs.chosen.narrow_chosen.Given as goal

abbrev pub invariant-loop-row : goal.invariant-loop-row
invariant-loop-row l = record {
  done : (k : ℕ) → k < l.row → get_or l.mask k false ≡ (get_or l.fn.mask k false && get_or (map (λ place. get_or l.flags place false) (places_of l.numbers)) k false);
  rest : (k : ℕ) → l.row ≤ k → get_or l.mask k false ≡ get_or l.fn.mask k false;
}
