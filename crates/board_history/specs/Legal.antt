-- Which histories are legal (this project's own): each event fits what the events before it come to.
use Rattle.std.specs.Prelude.{◌≡◌, ◌≢◌, ℕ, ◌+◌, ◌<◌, true, false, List, [], Option, ◌∷◌, Some, None, slice_get}
use Rattle.fragment_plan.specs.declared.fragment.Fragment.{Fragment}
use Rattle.board_history.specs.declared.attempt.Attempt.{Attempt}
use Rattle.board_history.specs.declared.event.BoardEvent.{BoardEvent}
use Rattle.board_history.specs.declared.event.BoardEvent.TheVariants as event
use Rattle.board_history.specs.declared.status.FragmentStatus.{FragmentStatus}
use Rattle.board_history.specs.declared.status.FragmentStatus.TheVariants.{Absent, Waiting, Running, Finished, GaveUp}
use Rattle.board_history.specs.Order.{is_finishable, place_of, is_before}
use Rattle.board_history.specs.States.{State, step}

abbrev pub waits : FragmentStatus → ℕ
waits Absent = 0
waits Waiting = 1
waits (Running attempt) = 0
waits Finished = 0
waits GaveUp = 0

-- how many fragments wait
abbrev pub waiting : List FragmentStatus → ℕ
waiting [] = 0
waiting (s ∷ ss) = waits s + waiting ss

-- one fragment comes before another
abbrev pub Precedes : List Fragment → List FragmentStatus → ℕ → ℕ → Type 0
Precedes plan statuses f g = is_before (place_of plan statuses f) (place_of plan statuses g) ≡ true

module _ (plan : List Fragment) where
  -- a fragment waits, and comes before all others that wait
  pub record IsFirstWaiting (statuses : List FragmentStatus) (f : ℕ) : Type 0 where
    pub waits_there : slice_get statuses f ≡ Some Waiting
    pub first : (g : ℕ) → slice_get statuses g ≡ Some Waiting → g ≢ f → Precedes plan statuses f g

  -- a fragment waits, and all others that wait come before it
  pub record IsLastWaiting (statuses : List FragmentStatus) (f : ℕ) : Type 0 where
    pub waits_there : slice_get statuses f ≡ Some Waiting
    pub last : (g : ℕ) → slice_get statuses g ≡ Some Waiting → g ≢ f → Precedes plan statuses g f

  -- an attempt runs whose fragment can't finish, and all others of this kind come before it
  pub record IsLastBlocked (statuses : List FragmentStatus) (a : Attempt) : Type 0 where
    pub runs : slice_get statuses a.fragment ≡ Some (Running a)
    pub blocked : is_finishable plan statuses a.fragment ≡ false
    pub last : (b : Attempt) → slice_get statuses b.fragment ≡ Some (Running b) → is_finishable plan statuses b.fragment ≡ false
        → b.fragment ≢ a.fragment → Precedes plan statuses b.fragment a.fragment

  -- each running attempt's fragment can finish
  abbrev pub AllFinishable : List FragmentStatus → Type 0
  AllFinishable statuses =
      (a : Attempt) → slice_get statuses a.fragment ≡ Some (Running a) → is_finishable plan statuses a.fragment ≡ true

  -- the last of the running whose fragments can't finish, or that there is none
  abbrev pub IsLastBlockedOf : List FragmentStatus → Option Attempt → Type 0
  IsLastBlockedOf statuses None = AllFinishable statuses
  IsLastBlockedOf statuses (Some a) = IsLastBlocked statuses a

  -- `room` wait, the fragment is the last of them, and it leaves for an absent one that comes before it and is offered next
  pub record MakesRoom (room : ℕ) (s : State) (g : ℕ) (after : List BoardEvent) : Type 0 where
    pub full : waiting s.statuses ≡ room
    pub last : IsLastWaiting s.statuses g
    pub made_for : (f : ℕ)
        × (slice_get after 0 ≡ Some (event.Offered f)) × (slice_get s.statuses f ≡ Some Absent) × Precedes plan s.statuses f g

  -- the fragment is absent, `room` wait, and it doesn't come before the last of them
  pub record HasNoRoom (room : ℕ) (s : State) (f : ℕ) : Type 0 where
    pub absent : slice_get s.statuses f ≡ Some Absent
    pub full : waiting s.statuses ≡ room
    pub behind : (g : ℕ) × IsLastWaiting s.statuses g × (Precedes plan s.statuses f g → ⊥)

  -- the executor is idle, and it runs the first of the waiting, by the number of its current attempt
  pub record MayStart (s : State) (a : Attempt) : Type 0 where
    pub idle : slice_get s.runners a.executor ≡ Some None
    pub first : IsFirstWaiting s.statuses a.fragment
    pub number : slice_get s.numbers a.fragment ≡ Some a.number

  -- no executor is idle, the first of the waiting can finish, and the victim is the last of the running that can't
  pub record MayPreempt (s : State) (victim : Attempt) (made_for : ℕ) : Type 0 where
    pub busy : (k : ℕ) → slice_get s.runners k ≢ Some None
    pub first : IsFirstWaiting s.statuses made_for
    pub finishable : is_finishable plan s.statuses made_for ≡ true
    pub victim_is : IsLastBlocked s.statuses victim

-- an attempt runs, and is its fragment's current one
pub record IsCurrent (s : State) (a : Attempt) : Type 0 where
  pub runs : slice_get s.statuses a.fragment ≡ Some (Running a)
  pub number : slice_get s.numbers a.fragment ≡ Some a.number

module _ (plan : List Fragment) (room : ℕ) where
  -- an event fits what the events before it come to, with those that come after it
  abbrev pub Fits : State → BoardEvent → List BoardEvent → Type 0
  Fits s (event.Offered f) after = (slice_get s.statuses f ≡ Some Absent) × (waiting s.statuses < room)
  Fits s (event.Evicted g) after = MakesRoom plan room s g after
  Fits s (event.Rejected f) after = HasNoRoom plan room s f
  Fits s (event.Started a) after = MayStart plan s a
  Fits s (event.Preempted victim made_for) after = MayPreempt plan s victim made_for
  Fits s (event.Finished a) after = IsCurrent s a
  Fits s (event.GaveUp a) after = IsCurrent s a

  -- each event fits
  abbrev pub Legal : State → List BoardEvent → Type 0
  Legal s [] = Unit {0}
  Legal s (e ∷ es) = Fits s e es × Legal (step s e) es
