use Rattle.orc_rle.proofs.BitRuns.{bit_run_reads}
use Rattle.orc_rle.proofs.ByteRunReader.{byte_run_reads}
use Rattle.orc_rle.proofs.RunReader.{int_run1_reads}
use Rattle.orc_rle.proofs.laws.readers_read_runs.Goals as goal

pub returns : goal.returns
returns c = record { integers = int_run1_reads; bytes = byte_run_reads; bits = bit_run_reads }
