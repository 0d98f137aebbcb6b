use Rattle.outside.specs.RunLaws.{decided}
use Rattle.orc_rle.specs.BitRun.{BitRun, bit_run}
use Rattle.orc_rle.specs.ByteRun.{ByteRun, byte_run}
use Rattle.orc_rle.specs.IntRun1.{IntRun1, int_run1}
use Rattle.orc_rle.proofs.BitRuns.{bit_run_reads}
use Rattle.orc_rle.proofs.ByteRunReader.{byte_run_reads}
use Rattle.orc_rle.proofs.RunReader.{int_run1_reads}
use Rattle.orc_rle.proofs.laws.every_stream_is_decided.Goals as goal

pub returns : goal.returns
returns c = record {
  integers = λ signed. decided (IntRun1 signed) (int_run1 signed) (int_run1_reads signed);
  bytes = decided ByteRun byte_run byte_run_reads;
  bits = decided BitRun bit_run bit_run_reads;
}
