use Rattle.outside.specs.RunLaws.{begins_no_other}
use Rattle.orc_rle2.specs.IntRun2.{IntRun2, int_run2}
use Rattle.orc_rle2.proofs.RunReader.{int_run2_reads}
use Rattle.orc_rle2.proofs.laws.runs_begin_no_other.Goals as goal

pub returns : goal.returns
returns c signed = begins_no_other (IntRun2 signed) (int_run2 signed) (int_run2_reads signed)
