use Rattle.std.proofs.Common.{◌≡◌, ℕ, ◌≤◌, take, get_or, map, pos}
use Rattle.std.specs.Int.{cast_signed, w64}
use Rattle.orc_rle2.proofs.WrappedSums.{above}
use Rattle.orc_rle2.proofs.sums.add_base.Given as goal

abbrev pub invariant-loop-number : goal.invariant-loop-number
invariant-loop-number l = record {
  made : take l.number-index l.numbers ≡ map (above (cast_signed w64 l.base)) (take l.number-index l.fn.numbers);
  rest : (k : ℕ) → l.number-index ≤ k → get_or l.numbers k (pos 0) ≡ get_or l.fn.numbers k (pos 0);
}
