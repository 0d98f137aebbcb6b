-- The fault of a column by that of a run doesn't hold the feed's.
use Rattle.outside.specs.declared.run_fault.RunFault.{RunFault}
use Rattle.outside.specs.declared.run_fault.RunFault.TheVariants as run
use Rattle.orc_columns.specs.declared.fault.StreamName.{StreamName}
use Rattle.orc_columns.specs.Batches.{HoldsNoRead}
use Rattle.orc_columns.specs.Draws.{of_run}
use Rattle.orc_columns.specs.FirstFault.{IsJudged}

pub of_run-no_read : (name : StreamName) (fault : RunFault) → HoldsNoRead (of_run name fault)
of_run-no_read name (run.Read failed) = tt
of_run-no_read name run.StreamEnds = tt
of_run-no_read name run.LongVarint = tt
of_run-no_read name run.PatchOutOfRun = tt
of_run-no_read name run.PatchTooWide = tt

pub of_run-judged : (name : StreamName) (fault : RunFault) → IsJudged (of_run name fault)
of_run-judged name (run.Read failed) = tt
of_run-judged name run.StreamEnds = tt
of_run-judged name run.LongVarint = tt
of_run-judged name run.PatchOutOfRun = tt
of_run-judged name run.PatchTooWide = tt
