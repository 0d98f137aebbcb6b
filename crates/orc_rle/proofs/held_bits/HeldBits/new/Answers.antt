use Rattle.std.proofs.Common.{refl}
use Rattle.orc_rle.proofs.held_bits.HeldBits.new.Goals as goal

pub returns : goal.returns
returns c = rw (c.none.ensures, c.new.ensures) refl
