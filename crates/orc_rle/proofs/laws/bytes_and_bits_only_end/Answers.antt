use Rattle.orc_rle.proofs.BitRuns.{bytes_only_end, bits_only_end}
use Rattle.orc_rle.proofs.laws.bytes_and_bits_only_end.Goals as goal

pub returns : goal.returns
returns c = record { bytes = bytes_only_end; bits = bits_only_end }
