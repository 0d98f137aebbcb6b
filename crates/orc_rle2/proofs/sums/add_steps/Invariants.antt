use Rattle.std.proofs.Common.{◌≡◌, ℕ, ◌∷◌, ◌≤◌, take, get_or, map, pos}
use Rattle.std.specs.Int.{cast_signed, w64}
use Rattle.orc_rle2.specs.Integers.{sums}
use Rattle.orc_rle2.proofs.WrappedSums.{signed_step, sum_after}
use Rattle.orc_rle2.proofs.sums.add_steps.Given as goal

abbrev pub invariant-loop-magnitude : goal.invariant-loop-magnitude
invariant-loop-magnitude l = record {
  made : cast_signed w64 l.value ∷ take l.magnitude-index l.magnitudes ≡ sums (cast_signed w64 l.value) (map (signed_step (cast_signed w64 l.delta)) (take l.magnitude-index l.fn.magnitudes));
  next_is : cast_signed w64 l.next ≡ sum_after (cast_signed w64 l.value) (map (signed_step (cast_signed w64 l.delta)) (take l.magnitude-index l.fn.magnitudes));
  rest : (k : ℕ) → l.magnitude-index ≤ k → get_or l.magnitudes k (pos 0) ≡ get_or l.fn.magnitudes k (pos 0);
}
