use Rattle.std.proofs.Common.{◌≡◌, take, pos, ◌+ℤ◌, ◌*ℤ◌}
use Rattle.std.specs.Int.{cast_signed, int_wrap, w64}
use Rattle.orc_integers.specs.Integers.{ramp}
use Rattle.orc_integers.proofs.ramp.write_ramp.Given as goal

abbrev pub invariant-loop-value : goal.invariant-loop-value
invariant-loop-value l = record {
  made : take l.value-index l.into ≡ ramp (cast_signed w64 l.base) (cast_signed w64 l.delta) l.value-index;
  next_is : cast_signed w64 l.next ≡ int_wrap w64 (cast_signed w64 l.base +ℤ pos l.value-index *ℤ cast_signed w64 l.delta);
}
