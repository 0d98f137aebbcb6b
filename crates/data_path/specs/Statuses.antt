-- The status of a run that wrote all of its results. Source: this project's own.
use Rattle.std.specs.Prelude.{Bool, true, false, List, if◌then◌else◌}
use Rattle.std.specs.List.{list_any}
use Rattle.fragment_outcome.specs.declared.outcome.Outcome.{Outcome}
use Rattle.fragment_outcome.specs.declared.outcome.Outcome.TheVariants as outcome
use Rattle.data_path.specs.declared.status.Status.{Status}
use Rattle.data_path.specs.declared.status.Status.TheVariants.{Done, SomeFailed}

abbrev pub is_failure : Outcome → Bool
is_failure (outcome.Answer answer) = false
is_failure (outcome.Failure why) = true

-- done where no fragment failed
abbrev pub status_of : List Outcome → Status
status_of outcomes = if list_any is_failure outcomes then SomeFailed else Done
