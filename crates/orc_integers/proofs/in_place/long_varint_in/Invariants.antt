use Rattle.std.proofs.Common.{ℕ, List, drop}
use Rattle.outside.specs.Lending.{ReadsIn}
use Rattle.outside.specs.Varint.{open_varint}
use Rattle.orc_integers.proofs.in_place.long_varint_in.Given as goal

abbrev pub invariant-loop-i : goal.invariant-loop-i
invariant-loop-i l = (number : ℕ) (left : List ℕ) → ReadsIn (open_varint l.begun.groups l.begun.count) (drop l.i l.bytes) number left
    → ReadsIn (open_varint 0 0) l.bytes number left
