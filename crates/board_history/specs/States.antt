-- What a history comes to (this project's own).
use Rattle.std.specs.Prelude.{ℕ, ◌+◌, List, [], ◌∷◌, length, Option, Some, None, slice_set, slice_index_or, replicate}
use Rattle.fragment_plan.specs.declared.fragment.Fragment.{Fragment}
use Rattle.board_history.specs.declared.attempt.Attempt.{Attempt}
use Rattle.board_history.specs.declared.event.BoardEvent.{BoardEvent}
use Rattle.board_history.specs.declared.event.BoardEvent.TheVariants as event
use Rattle.board_history.specs.declared.status.FragmentStatus.{FragmentStatus}
use Rattle.board_history.specs.declared.status.FragmentStatus.TheVariants.{Absent, Waiting, Running, Finished, GaveUp}

pub record State : Type 0 where
  -- where each fragment is
  pub statuses : List FragmentStatus
  -- the number of each fragment's current attempt
  pub numbers : List ℕ
  -- what each executor runs; an idle one runs nothing
  pub runners : List (Option Attempt)

-- nothing happened: all fragments are absent, their current attempt is the first, and all executors are idle
abbrev pub start_of : List Fragment → ℕ → State
start_of plan executors = record {
  statuses = replicate (length plan) Absent;
  numbers = replicate (length plan) 1;
  runners = replicate executors None;
}

-- a fragment is elsewhere
abbrev pub moved : State → ℕ → FragmentStatus → State
moved s f status = record { statuses = slice_set s.statuses f status; numbers = s.numbers; runners = s.runners }

-- the fragment of an attempt is elsewhere, and its executor runs this
abbrev pub placed : State → Attempt → FragmentStatus → Option Attempt → State
placed s a status runner = record {
  statuses = slice_set s.statuses a.fragment status;
  numbers = s.numbers;
  runners = slice_set s.runners a.executor runner;
}

-- what an event makes of a state
abbrev pub step : State → BoardEvent → State
step s (event.Offered f) = moved s f Waiting
step s (event.Evicted f) = moved s f Absent
step s (event.Rejected f) = s
step s (event.Started a) = placed s a (Running a) (Some a)
step s (event.Preempted victim made_for) = record {
  statuses = slice_set s.statuses victim.fragment Absent;
  numbers = slice_set s.numbers victim.fragment (slice_index_or s.numbers victim.fragment 0 + 1);
  runners = slice_set s.runners victim.executor None;
}
step s (event.Finished a) = placed s a Finished None
step s (event.GaveUp a) = placed s a GaveUp None

-- what a history comes to
abbrev pub replay : State → List BoardEvent → State
replay s [] = s
replay s (e ∷ es) = replay (step s e) es
