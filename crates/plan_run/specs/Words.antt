-- Which outcomes have words (this project's own): where one holds a fault, it is a fault of what was read, and where it names a
-- source that failed, that is a fragment of the plan.
use Rattle.std.specs.Prelude.{ℕ, ◌<◌}
use Rattle.orc_rows.specs.Judging.{IsContent}
use Rattle.tail_faults.specs.Words.{TailHasWords}
use Rattle.fragment_outcome.specs.declared.failure.Failure.{Failure}
use Rattle.fragment_outcome.specs.declared.failure.Failure.TheVariants as failure
use Rattle.fragment_outcome.specs.declared.outcome.Outcome.{Outcome}
use Rattle.fragment_outcome.specs.declared.outcome.Outcome.TheVariants as outcome

-- a failure of a fragment of a plan of so many has words
abbrev pub FailureHasWords : ℕ → Failure → Type 0
FailureHasWords count (failure.BrokenTail fault) = TailHasWords fault
FailureHasWords count (failure.BrokenFooter stripe fault) = TailHasWords fault
FailureHasWords count (failure.BrokenColumn stripe column fault) = IsContent fault
FailureHasWords count (failure.SourceFailed source) = source < count
FailureHasWords count other = Unit {0}

-- an outcome in a plan of so many fragments has words
abbrev pub HasWords : ℕ → Outcome → Type 0
HasWords count (outcome.Answer answer) = Unit {0}
HasWords count (outcome.Failure why) = FailureHasWords count why

-- a scan's outcome has words in every plan: it names no source
abbrev pub ScanHasWords : Outcome → Type 0
ScanHasWords o = HasWords 0 o
