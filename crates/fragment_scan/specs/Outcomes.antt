-- Which outcomes a scan can have, whatever its file holds. Source: this project's own.
use Rattle.orc_rows.specs.Judging.{IsContent}
use Rattle.tail_faults.specs.Words.{TailHasWords}
use Rattle.fragment_plan.specs.declared.fragment.Scan.{Scan}
use Rattle.fragment_plan.specs.declared.fragment.FoldKind.{FoldKind}
use Rattle.fragment_plan.specs.declared.fragment.FoldKind.TheVariants as kind
use Rattle.fragment_outcome.specs.declared.answer.Answer.{Answer}
use Rattle.fragment_outcome.specs.declared.answer.Answer.TheVariants as answer
use Rattle.fragment_outcome.specs.declared.failure.Failure.{Failure}
use Rattle.fragment_outcome.specs.declared.failure.Failure.TheVariants as failure
use Rattle.fragment_outcome.specs.declared.outcome.Outcome.{Outcome}
use Rattle.fragment_outcome.specs.declared.outcome.Outcome.TheVariants as outcome

-- A failure that a scan can have: not that of a merge, and none that holds a fault without words.
abbrev pub IsScanFailure : Failure → Type 0
IsScanFailure (failure.BrokenTail why) = TailHasWords why
IsScanFailure (failure.BrokenFooter stripe why) = TailHasWords why
IsScanFailure (failure.BrokenColumn stripe column why) = IsContent why
IsScanFailure (failure.SourceFailed source) = ⊥
IsScanFailure other = Unit {0}

-- an answer of the fold's own form
abbrev pub IsAnswerFor : FoldKind → Answer → Type 0
IsAnswerFor (kind.Rows places) (answer.Rows table) = Unit {0}
IsAnswerFor kind.Count (answer.Count number) = Unit {0}
IsAnswerFor (kind.Sum place) (answer.Sum total) = Unit {0}
IsAnswerFor (kind.Group place) (answer.Group groups) = Unit {0}
IsAnswerFor fold other = ⊥

-- an outcome that the scan can have
abbrev pub IsOutcomeFor : Scan → Outcome → Type 0
IsOutcomeFor scan (outcome.Answer a) = IsAnswerFor scan.fold a
IsOutcomeFor scan (outcome.Failure why) = IsScanFailure why
