-- A board with its results (this project's own).
use Rattle.std.specs.Prelude.{◌≡◌, ℕ, Bool, true, false, List, length, map, Option, Some, None, is_some, slice_get, slice_set, replicate}
use Rattle.outside.specs.Files.{Files}
use Rattle.fragment_plan.specs.declared.fragment.Fragment.{Fragment}
use Rattle.fragment_outcome.specs.declared.answer.Answer.{Answer}
use Rattle.kept_results.specs.Kept.{IsKept}
use Rattle.board_history.specs.declared.attempt.Attempt.{Attempt}
use Rattle.board_history.specs.declared.event.BoardEvent.TheVariants as event
use Rattle.board_history.specs.declared.status.FragmentStatus.{FragmentStatus}
use Rattle.board_history.specs.declared.status.FragmentStatus.TheVariants.{Absent, Waiting, Running, Finished, GaveUp}
use Rattle.board_history.specs.Legal.{IsCurrent, Legal}
use Rattle.board_history.specs.States.{start_of, replay}
use Rattle.board_history.specs.Histories.{HistoryOf, no_history, after_event}
use Rattle.board_schedule.specs.declared.answer.Finish.{Finish}
use Rattle.board_schedule.specs.declared.answer.Finish.TheVariants.{Kept, Stale}

-- what contracts see of a board
pub record BoardOf : Type 0 where
  pub history : HistoryOf
  -- for each fragment its answer, where it finished
  pub answers : List (Option Answer)

-- nothing happened yet
abbrev pub no_board : List Fragment → ℕ → ℕ → BoardOf
no_board plan executors room = record { history = no_history plan executors room; answers = replicate (length plan) None }

abbrev pub is_finished : FragmentStatus → Bool
is_finished Absent = false
is_finished Waiting = false
is_finished (Running attempt) = false
is_finished Finished = true
is_finished GaveUp = false

-- What a board's type keeps: each fragment has an answer exactly where it is finished, and the answer is of the fragment's shape and,
-- where files are told, what the fragment means.
pub record HasAnswers (told : Option Files) (b : BoardOf) : Type 0 where
  pub all : length b.answers ≡ length b.history.plan
  pub finished : map is_some b.answers ≡ map is_finished b.history.state.statuses
  pub kept : (f : ℕ) (a : Answer) → slice_get b.answers f ≡ Some (Some a) → IsKept told b.history.plan f a

-- What the end of an attempt with a result did: its answer is kept exactly where the attempt is its fragment's current one, and runs.
abbrev pub Finishes : BoardOf → Attempt → Answer → Finish → BoardOf → Type 0
Finishes b a answer Kept new =
    IsCurrent b.history.state a
    × (new ≡ record { history = after_event b.history (event.Finished a); answers = slice_set b.answers a.fragment (Some answer) })
Finishes b a answer (Stale current) new =
    (IsCurrent b.history.state a → ⊥) × (slice_get b.history.state.numbers a.fragment ≡ Some current) × (new ≡ b)

-- the events are legal
abbrev pub IsLegal : HistoryOf → Type 0
IsLegal h = Legal h.plan h.room (start_of h.plan h.executors) h.events

-- the state is what the events come to
abbrev pub IsReplayed : HistoryOf → Type 0
IsReplayed h = h.state ≡ replay (start_of h.plan h.executors) h.events

-- where a fragment is, by the replay of the events
abbrev pub status_by_replay : HistoryOf → ℕ → Option FragmentStatus
status_by_replay h f = slice_get (replay (start_of h.plan h.executors) h.events).statuses f
