use Rattle.std.proofs.Common.{◌≡◌, ◌-◌, ◌≤◌, length, take, get_or, pos, ◌+ℤ◌, ◌*ℤ◌}
use Rattle.std.specs.Int.{cast_signed, int_wrap, w64}
use Rattle.orc_integers.specs.Integers.{ramp}
use Rattle.rle_writer.proofs.ramp.ramp_len.Given as goal

abbrev pub invariant-loop-len : goal.invariant-loop-len
invariant-loop-len l = record {
  within : l.len ≤ length l.values;
  most : l.len ≤ l.most;
  ramp : take l.len l.values ≡ ramp (get_or l.values 0 (pos 0)) (cast_signed w64 l.step) l.len;
  next_is : cast_signed w64 l.next ≡ int_wrap w64 (get_or l.values 0 (pos 0) +ℤ pos l.len *ℤ cast_signed w64 l.step);
}

abbrev pub decreases-loop-len : goal.decreases-loop-len
decreases-loop-len l = length l.values - l.len
