-- The laws of meanings, which this crate's law functions carry. Source: this project's own.
use Rattle.std.specs.Prelude.{◌≡◌}
use Rattle.outside.specs.Files.{Files}
use Rattle.fragment_plan.specs.declared.fragment.Scan.{Scan}
use Rattle.fragment_outcome.specs.declared.outcome.Outcome.{Outcome}
use Rattle.fragment_meaning.specs.ScanOutcome.{ScanMeans}

-- a scan has an outcome
abbrev pub ScansHaveOutcomes : Type 0
ScansHaveOutcomes = (files : Files) (scan : Scan) → (o : Outcome) × ScanMeans files scan o

-- and it is one
abbrev pub OutcomesAreOne : Type 0
OutcomesAreOne = (files : Files) (scan : Scan) (a b : Outcome) → ScanMeans files scan a → ScanMeans files scan b → a ≡ b
