use Rattle.outside.specs.RunLaws.{decided}
use Rattle.orc_rle2.specs.IntRun2.{IntRun2, int_run2}
use Rattle.orc_rle2.proofs.RunReader.{int_run2_reads}
use Rattle.orc_rle2.proofs.laws.every_stream_is_decided.Goals as goal

pub returns : goal.returns
returns c signed = decided (IntRun2 signed) (int_run2 signed) (int_run2_reads signed)
