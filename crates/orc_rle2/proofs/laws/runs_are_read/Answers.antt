use Rattle.orc_rle2.proofs.RunReader.{int_run2_reads}
use Rattle.orc_rle2.proofs.laws.runs_are_read.Goals as goal

pub returns : goal.returns
returns c = int_run2_reads
