use Rattle.std.proofs.Common.{◌≡◌, length, map, take}
use Rattle.batch_masks.specs.Rows.{passes, rows_of}
use Rattle.batch_masks.proofs.mask.narrow_all.Given as goal

abbrev pub invariant-loop-one : goal.invariant-loop-one
invariant-loop-one l = l.mask ≡ map (passes (take l.one-index l.tests)) (rows_of (length l.fn.mask) l.columns)
