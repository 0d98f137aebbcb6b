-- A history with what it comes to (this project's own).
use Rattle.std.specs.Prelude.{◌≡◌, ℕ, ◌+◌, ◌<◌, ◌≤◌, ◌^◌, List, [], ◌∷◌, ◌++◌, length, Option, Some, None, slice_get}
use Rattle.fragment_plan.specs.declared.fragment.Fragment.{Fragment}
use Rattle.board_history.specs.declared.attempt.Attempt.{Attempt}
use Rattle.board_history.specs.declared.event.BoardEvent.{BoardEvent}
use Rattle.board_history.specs.declared.status.FragmentStatus.TheVariants.{Running}
use Rattle.board_history.specs.States.{State, start_of, step, replay}
use Rattle.board_history.specs.Legal.{waiting, Legal}

pub record HistoryOf : Type 0 where
  pub plan : List Fragment
  -- how many executors there are
  pub executors : ℕ
  -- how many fragments may wait
  pub room : ℕ
  pub events : List BoardEvent
  -- what the events come to
  pub state : State

-- nothing happened yet
abbrev pub no_history : List Fragment → ℕ → ℕ → HistoryOf
no_history plan executors room = record { plan = plan; executors = executors; room = room; events = []; state = start_of plan executors }

-- with one event more
abbrev pub after_event : HistoryOf → BoardEvent → HistoryOf
after_event h e = record { plan = h.plan; executors = h.executors; room = h.room; events = h.events ++ e ∷ []; state = step h.state e }

-- with two events more
abbrev pub after_both : HistoryOf → BoardEvent → BoardEvent → HistoryOf
after_both h e f = record {
  plan = h.plan;
  executors = h.executors;
  room = h.room;
  events = h.events ++ e ∷ f ∷ [];
  state = step (step h.state e) f;
}

-- what holds where a fragment has the status Running: the attempt is its current one, its executor runs it, and there is a next number
pub record RunsAt (s : State) (f : ℕ) (a : Attempt) : Type 0 where
  pub fragment : a.fragment ≡ f
  pub number : slice_get s.numbers f ≡ Some a.number
  pub runner : slice_get s.runners a.executor ≡ Some (Some a)
  pub next : a.number + 1 < 2 ^ 32

-- what holds where an executor runs an attempt
pub record RunBy (s : State) (k : ℕ) (a : Attempt) : Type 0 where
  pub executor : a.executor ≡ k
  pub status : slice_get s.statuses a.fragment ≡ Some (Running a)

-- a state's parts agree, and no more wait than there is room for
pub record IsSound (fragments executors room : ℕ) (s : State) : Type 0 where
  pub statuses : length s.statuses ≡ fragments
  pub numbers : length s.numbers ≡ fragments
  pub runners : length s.runners ≡ executors
  pub runs : (f : ℕ) (a : Attempt) → slice_get s.statuses f ≡ Some (Running a) → RunsAt s f a
  pub run : (k : ℕ) (a : Attempt) → slice_get s.runners k ≡ Some (Some a) → RunBy s k a
  pub few : waiting s.statuses ≤ room

abbrev pub running_by : Option Attempt → ℕ
running_by None = 0
running_by (Some a) = 1

-- how many executors run an attempt
abbrev pub running : List (Option Attempt) → ℕ
running [] = 0
running (r ∷ rs) = running_by r + running rs

-- What a history's type keeps: it is legal, its state is what the events come to, and the state is sound.
pub record IsHistory (h : HistoryOf) : Type 0 where
  pub state_is : h.state ≡ replay (start_of h.plan h.executors) h.events
  pub legal : Legal h.plan h.room (start_of h.plan h.executors) h.events
  pub sound : IsSound (length h.plan) h.executors h.room h.state
  pub fragments : length h.plan < 2 ^ 32
