-- What becomes of the faults that end a scan. Source: this project's own.
use Rattle.std.specs.Prelude.{ℕ, Result, Ok, Err}
use Rattle.outside.specs.declared.failed.NoMemory.{NoMemory}
use Rattle.orc_tail.specs.declared.fault.TailFault.{TailFault}
use Rattle.orc_tail.specs.declared.fault.TailFault.TheVariants as fault
use Rattle.orc_rows.specs.declared.fault.RowsFault.{RowsFault}
use Rattle.orc_rows.specs.declared.fault.RowsFault.TheVariants as broken
use Rattle.fragment_outcome.specs.declared.failure.Failure.{Failure}
use Rattle.fragment_outcome.specs.declared.failure.Failure.TheVariants as failure
use Rattle.fragment_outcome.specs.declared.outcome.Outcome.{Outcome}
use Rattle.fragment_meaning.specs.ScanOutcome.{failed}

-- a fault of a tail: a compression is a failure of its own, a failed read is one, and want of memory is no outcome
abbrev pub tail_outcome : TailFault → Result Outcome NoMemory
tail_outcome (fault.Compressed kind) = Ok (failed (failure.Compressed kind))
tail_outcome (fault.Read why) = Ok (failed failure.ReadFault)
tail_outcome fault.NoMemory = Err (record {})
tail_outcome why = Ok (failed (failure.BrokenTail why))

-- a fault of a stripe's footer: one of a compression, which a footer never has, would be the file's
abbrev pub footer_failure : ℕ → TailFault → Failure
footer_failure stripe (fault.Compressed kind) = failure.Compressed kind
footer_failure stripe why = failure.BrokenFooter stripe why

-- where rows break
abbrev pub broken_failure : RowsFault → Failure
broken_failure (broken.BrokenFooter stripe why) = footer_failure stripe why
broken_failure (broken.BrokenColumn stripe column why) = failure.BrokenColumn stripe column why
