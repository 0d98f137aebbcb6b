use Rattle.std.proofs.Common.{length}
use Rattle.rle2_writer.proofs.entries.+write_entries.Given as goal

abbrev pub decreases-write_entries : goal.decreases-write_entries
decreases-write_entries l = length l.numbers.now
