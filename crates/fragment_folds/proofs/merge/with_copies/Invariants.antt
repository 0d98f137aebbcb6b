use Rattle.std.proofs.Common.{◌≡◌, ◌++◌, take}
use Rattle.fragment_folds.proofs.merge.with_copies.Given as goal

abbrev pub invariant-loop-row : goal.invariant-loop-row
invariant-loop-row l = l.rows.items ≡ l.fn.table ++ take l.row-index l.more
