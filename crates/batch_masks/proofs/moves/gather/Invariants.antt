use Rattle.std.proofs.Common.{◌≡◌, ℕ, ◌≤◌, take, get_or, false}
use Rattle.orc_values.specs.Woven.{present_count}
use Rattle.batch_masks.specs.Kept.{kept}
use Rattle.batch_masks.proofs.moves.gather.Given as goal

abbrev pub invariant-loop-row : goal.invariant-loop-row
invariant-loop-row l = record {
  few : l.used ≤ l.row;
  counted : l.used ≡ present_count (take l.row l.present);
  front : take l.used l.mask ≡ kept (take l.row l.present) (take l.row l.fn.mask);
  rest : (k : ℕ) → l.row ≤ k → get_or l.mask k false ≡ get_or l.fn.mask k false;
}
