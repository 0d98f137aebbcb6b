use Rattle.orc_rle.proofs.BitRuns.{bits_are_spelled, bits_break}
use Rattle.orc_rle.proofs.laws.bits_are_bits_of_bytes.Goals as goal

pub returns : goal.returns
returns c = record { spelled = bits_are_spelled; breaks = bits_break }
