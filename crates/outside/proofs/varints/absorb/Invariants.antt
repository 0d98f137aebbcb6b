use Rattle.std.proofs.Common.{◌≤◌, length, take}
use Rattle.outside.specs.Pieces.{Absorbed}
use Rattle.outside.proofs.varints.absorb.Given as goal

abbrev pub invariant-loop-byte : goal.invariant-loop-byte
invariant-loop-byte l = record {
  within : l.ended ≤ l.byte-index;
  absorbed : Absorbed l.initial.begun.groups l.initial.begun.count (length l.out) (take l.byte-index l.piece) (take l.ended l.out) l.begun.groups l.begun.count;
}
