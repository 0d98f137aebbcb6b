-- Which scans of a run weren't read: those whose outcome is a read fault. Source: this project's own.
use Rattle.std.specs.Prelude.{◌≤◌, ◌⊎◌, ◌+◌, ℕ, Bool, true, false, List, [], ◌∷◌, slice_get, Option, Some, None, if◌then◌else◌}
use Rattle.outside.specs.Cause.{last_count}
use Rattle.fragment_outcome.specs.declared.failure.Failure.{Failure}
use Rattle.fragment_outcome.specs.declared.failure.Failure.TheVariants as failure
use Rattle.fragment_outcome.specs.declared.outcome.Outcome.{Outcome}
use Rattle.fragment_outcome.specs.declared.outcome.Outcome.TheVariants as outcome

abbrev pub is_read_failure : Failure → Bool
is_read_failure failure.NoFile = false
is_read_failure (failure.Compressed kind) = false
is_read_failure (failure.BrokenTail fault) = false
is_read_failure (failure.BrokenFooter stripe fault) = false
is_read_failure (failure.BrokenColumn stripe column fault) = false
is_read_failure (failure.NoColumn name) = false
is_read_failure (failure.WrongKind name) = false
is_read_failure failure.Overflow = false
is_read_failure (failure.SourceFailed source) = false
is_read_failure failure.ReadFault = true

-- the outcome is a read fault
abbrev pub is_read_fault : Outcome → Bool
is_read_fault (outcome.Answer answer) = false
is_read_fault (outcome.Failure why) = is_read_failure why

abbrev pub is_unread : Option Outcome → Bool
is_unread None = false
is_unread (Some o) = is_read_fault o

-- the fragment of that number wasn't read
abbrev pub unread_in : List Outcome → ℕ → Bool
unread_in outcomes number = is_unread (slice_get outcomes number)

-- how many of them are read faults
abbrev pub read_faults : List Outcome → ℕ
read_faults [] = 0
read_faults (o ∷ outcomes) = (if is_read_fault o then 1 else 0) + read_faults outcomes

-- there are at most so many of them as a count of faults rose by, unless it stands at its last value
abbrev pub AreFew : ℕ → ℕ → ℕ → Type 0
AreFew before after number = (before + number ≤ after) ⊎ (last_count ≤ after)
