use Rattle.outside.specs.RunLaws.{begins_no_other}
use Rattle.orc_rle.specs.ByteRun.{ByteRun, byte_run}
use Rattle.orc_rle.specs.IntRun1.{IntRun1, int_run1}
use Rattle.orc_rle.proofs.ByteRunReader.{byte_run_reads}
use Rattle.orc_rle.proofs.RunReader.{int_run1_reads}
use Rattle.orc_rle.proofs.laws.runs_begin_no_other.Goals as goal

pub returns : goal.returns
returns c = record {
  integers = λ signed. begins_no_other (IntRun1 signed) (int_run1 signed) (int_run1_reads signed);
  bytes = begins_no_other ByteRun byte_run byte_run_reads;
}
