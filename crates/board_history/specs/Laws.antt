-- What holds of every legal history (this project's own).
use Rattle.std.specs.Prelude.{◌≡◌, ◌≢◌, ℕ, ◌+◌, ◌<◌, ◌≤◌, true, false, List, [], ◌∷◌, length, Some, slice_get, if◌then◌else◌, ◌==◌}
use Rattle.fragment_plan.specs.declared.fragment.Fragment.{Fragment}
use Rattle.board_history.specs.declared.place.Place.{Place}
use Rattle.board_history.specs.declared.event.BoardEvent.{BoardEvent}
use Rattle.board_history.specs.declared.event.BoardEvent.TheVariants as event
use Rattle.board_history.specs.declared.status.FragmentStatus.{FragmentStatus}
use Rattle.board_history.specs.declared.status.FragmentStatus.TheVariants.{Absent, Waiting, Running, Finished, GaveUp}
use Rattle.board_history.specs.Order.{is_before}
use Rattle.board_history.specs.States.{start_of, replay}
use Rattle.board_history.specs.Legal.{Legal, IsFirstWaiting, IsLastWaiting}
use Rattle.board_history.specs.Totals.{total, starts, kills, finishes, give_ups}

-- no place comes before itself
abbrev pub NoneBeforeItself : Type 0
NoneBeforeItself = (p : Place) → is_before p p ≡ false

-- what comes before one that comes before another comes before that
abbrev pub BeforeGoesOn : Type 0
BeforeGoesOn = (p q r : Place) → is_before p q ≡ true → is_before q r ≡ true → is_before p r ≡ true

-- of two fragments one comes before the other
abbrev pub OneIsBefore : Type 0
OneIsBefore = (p q : Place) → is_before p q ≡ false → p.fragment ≢ q.fragment → is_before q p ≡ true

-- the first of the waiting is one fragment
abbrev pub FirstIsOne : Type 0
FirstIsOne =
    (plan : List Fragment) (statuses : List FragmentStatus) (f g : ℕ)
    → IsFirstWaiting plan statuses f → IsFirstWaiting plan statuses g → f ≡ g

-- the last of the waiting is one fragment
abbrev pub LastIsOne : Type 0
LastIsOne =
    (plan : List Fragment) (statuses : List FragmentStatus) (f g : ℕ)
    → IsLastWaiting plan statuses f → IsLastWaiting plan statuses g → f ≡ g

abbrev pub runs_there : FragmentStatus → ℕ
runs_there Absent = 0
runs_there Waiting = 0
runs_there (Running attempt) = 1
runs_there Finished = 0
runs_there GaveUp = 0

-- how many fragments run
abbrev pub running_in : List FragmentStatus → ℕ
running_in [] = 0
running_in (s ∷ ss) = runs_there s + running_in ss

-- what ends an attempt: it is stopped, or finishes, or gives up
abbrev pub ends : BoardEvent → ℕ
ends e = kills e + finishes e + give_ups e

-- what was started has ended, or runs
abbrev pub StartedHasEndedOrRuns : Type 0
StartedHasEndedOrRuns =
    (plan : List Fragment) (executors room : ℕ) (es : List BoardEvent) → Legal plan room (start_of plan executors) es
    → total starts es ≡ running_in (replay (start_of plan executors) es).statuses + total ends es

-- the end of a fragment: it finishes, or gives up
abbrev pub closes : ℕ → BoardEvent → ℕ
closes f (event.Offered g) = 0
closes f (event.Evicted g) = 0
closes f (event.Rejected g) = 0
closes f (event.Started a) = 0
closes f (event.Preempted victim made_for) = 0
closes f (event.Finished a) = if a.fragment == f then 1 else 0
closes f (event.GaveUp a) = if a.fragment == f then 1 else 0

-- each fragment ends at most once
abbrev pub EndsOnce : Type 0
EndsOnce =
    (plan : List Fragment) (executors room : ℕ) (es : List BoardEvent) (f : ℕ) → Legal plan room (start_of plan executors) es
    → total (closes f) es ≤ 1

-- the attempt of a fragment is stopped
abbrev pub stops : ℕ → BoardEvent → ℕ
stops f (event.Offered g) = 0
stops f (event.Evicted g) = 0
stops f (event.Rejected g) = 0
stops f (event.Started a) = 0
stops f (event.Preempted victim made_for) = if victim.fragment == f then 1 else 0
stops f (event.Finished a) = 0
stops f (event.GaveUp a) = 0

-- the number of a fragment's current attempt is 1 more than its attempts that were stopped
abbrev pub NumbersCountStops : Type 0
NumbersCountStops =
    (plan : List Fragment) (executors : ℕ) (es : List BoardEvent) (f : ℕ) → f < length plan
    → slice_get (replay (start_of plan executors) es).numbers f ≡ Some (1 + total (stops f) es)
