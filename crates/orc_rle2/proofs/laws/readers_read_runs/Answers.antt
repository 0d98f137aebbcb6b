use Rattle.orc_rle2.proofs.RunReader.{int_run2_reads}
use Rattle.orc_rle2.proofs.laws.readers_read_runs.Goals as goal

pub returns : goal.returns
returns c = int_run2_reads
