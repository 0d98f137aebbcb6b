use Rattle.std.proofs.Common.{◌≡◌, ◌≤◌, ◌+◌, ◌*◌, ◌^◌, take, All}
use Rattle.std.specs.Prelude.{FitsSigned}
use Rattle.std.specs.Int.{w64}
use Rattle.orc_columns.specs.Numbers.{total_from, bound_from}
use Rattle.orc_columns.proofs.numbers.with_numbers.Given as goal

abbrev pub invariant-loop-number : goal.invariant-loop-number
invariant-loop-number l = record {
  sum : l.total ≡ total_from l.fn.summary.total (take l.number-index l.numbers);
  most : l.bound ≡ bound_from l.fn.summary.bound (take l.number-index l.numbers);
  high : l.total ≤ (l.given + l.number-index) * 2 ^ 64;
  fit : All (FitsSigned w64) (take l.number-index l.numbers);
  top : l.bound ≤ 2 ^ 64;
}
