-- An outcome of a scan has words.
use Rattle.std.proofs.Common.{refl}
use Rattle.std.specs.Prelude.{◌≡◌, Option, Some, None, IsSome}
use Rattle.fragment_plan.specs.declared.fragment.Scan.{Scan}
use Rattle.fragment_outcome.specs.declared.failure.Failure.{Failure}
use Rattle.fragment_outcome.specs.declared.failure.Failure.TheVariants as failure
use Rattle.fragment_outcome.specs.declared.outcome.Outcome.{Outcome}
use Rattle.fragment_outcome.specs.declared.outcome.Outcome.TheVariants as outcome
use Rattle.fragment_scan.specs.Outcomes.{IsOutcomeFor, IsScanFailure}
use Rattle.plan_run.specs.Words.{FailureHasWords, ScanHasWords}

failure_words : (why : Failure) → IsScanFailure why → FailureHasWords 0 why
failure_words failure.NoFile h = tt
failure_words (failure.Compressed kind) h = tt
failure_words (failure.BrokenTail fault) h = h
failure_words (failure.BrokenFooter stripe fault) h = h
failure_words (failure.BrokenColumn stripe number fault) h = h
failure_words (failure.NoColumn name) h = tt
failure_words (failure.WrongKind name) h = tt
failure_words failure.Overflow h = tt
failure_words (failure.SourceFailed source) h = absurd h
failure_words failure.ReadFault h = tt

outcome_words : (scan : Scan) (o : Outcome) → IsOutcomeFor scan o → ScanHasWords o
outcome_words scan (outcome.Answer a) h = tt
outcome_words scan (outcome.Failure why) h = failure_words why h

-- by the scan that there is
pub scan_words : (found : Option Scan) (o : Outcome) → IsSome found → ((scan : Scan) → found ≡ Some scan → IsOutcomeFor scan o) → ScanHasWords o
scan_words None o some is = absurd cc
scan_words (Some scan) o some is = outcome_words scan o (is scan refl)
