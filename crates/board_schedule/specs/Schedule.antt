-- What the calls of a board do (this project's own).
use Rattle.std.specs.Prelude.{◌≡◌, ◌≢◌, ℕ, ◌<◌, ◌≤◌, true, false, List, length, Option, Some, None, slice_get}
use Rattle.board_history.specs.declared.attempt.Attempt.{Attempt}
use Rattle.board_history.specs.declared.place.Place.{Place}
use Rattle.board_history.specs.declared.event.BoardEvent.{BoardEvent}
use Rattle.board_history.specs.declared.event.BoardEvent.TheVariants as event
use Rattle.board_history.specs.declared.status.FragmentStatus.TheVariants.{Waiting, Running}
use Rattle.board_history.specs.Order.{is_finishable}
use Rattle.board_history.specs.Legal.{waiting, Precedes, IsFirstWaiting, IsLastWaiting, HasNoRoom, MayPreempt, IsCurrent}
use Rattle.board_history.specs.Histories.{HistoryOf, after_event, after_both}
use Rattle.board_schedule.specs.declared.answer.Offer.{Offer}
use Rattle.board_schedule.specs.declared.answer.Offer.TheVariants.{Accepted, EvictedOther, Rejected}
use Rattle.board_schedule.specs.declared.answer.Preempt.{Preempt}
use Rattle.board_schedule.specs.declared.answer.Finish.{Finish}
use Rattle.board_schedule.specs.declared.answer.Finish.TheVariants.{Kept, Stale}
use Rattle.board_schedule.specs.Queue.{IsQueue}

-- What an offer of an absent fragment did: it waits where there was room; else the last of the waiting made room for it where the
-- fragment comes before that one, and else it stays absent.
abbrev pub Offers : HistoryOf → ℕ → Offer → HistoryOf → Type 0
Offers h f Accepted new = (waiting h.state.statuses < h.room) × (new ≡ after_event h (event.Offered f))
Offers h f (EvictedOther g) new =
    (waiting h.state.statuses ≡ h.room) × IsLastWaiting h.plan h.state.statuses g × Precedes h.plan h.state.statuses f g
    × (new ≡ after_both h (event.Evicted g) (event.Offered f))
Offers h f Rejected new = HasNoRoom h.plan h.room h.state f × (new ≡ after_event h (event.Rejected f))

-- What a start did: the idle executor runs the first of the waiting, by the number of its current attempt; or none waits.
abbrev pub Starts : HistoryOf → ℕ → Option Attempt → HistoryOf → Type 0
Starts h executor None new = ((f : ℕ) → slice_get h.state.statuses f ≢ Some Waiting) × (new ≡ h)
Starts h executor (Some a) new =
    IsFirstWaiting h.plan h.state.statuses a.fragment × (slice_get h.state.numbers a.fragment ≡ Some a.number) × (a.executor ≡ executor)
    × (new ≡ after_event h (event.Started a))

-- no executor is idle, a fragment that can finish waits, and one that can't runs
pub record Presses (h : HistoryOf) (f : ℕ) (a : Attempt) : Type 0 where
  pub all_busy : (k : ℕ) → slice_get h.state.runners k ≢ Some None
  pub waits_there : slice_get h.state.statuses f ≡ Some Waiting
  pub finishable : is_finishable h.plan h.state.statuses f ≡ true
  pub runs : slice_get h.state.statuses a.fragment ≡ Some (Running a)
  pub blocked : is_finishable h.plan h.state.statuses a.fragment ≡ false

-- What a review did: it stopped the last of the running that can't finish for the first of the waiting, which can; or nothing
-- pressed for it.
abbrev pub Reviews : HistoryOf → Option Preempt → HistoryOf → Type 0
Reviews h None new = ((f : ℕ) (a : Attempt) → Presses h f a → ⊥) × (new ≡ h)
Reviews h (Some p) new =
    MayPreempt h.plan h.state p.victim p.made_for × (new ≡ after_event h (event.Preempted p.victim p.made_for))

-- What the end of an attempt did: it was taken exactly where the attempt is its fragment's current one, and runs.
abbrev pub Ends : HistoryOf → Attempt → BoardEvent → Finish → HistoryOf → Type 0
Ends h a ended Kept new = IsCurrent h.state a × (new ≡ after_event h ended)
Ends h a ended (Stale current) new =
    (IsCurrent h.state a → ⊥) × (slice_get h.state.numbers a.fragment ≡ Some current) × (new ≡ h)

-- the number of a fragment's current attempt, where it is greater than the attempt's
abbrev pub Kills : HistoryOf → Attempt → Option ℕ → Type 0
Kills h a None = (n : ℕ) → slice_get h.state.numbers a.fragment ≡ Some n → n ≤ a.number
Kills h a (Some n) = (slice_get h.state.numbers a.fragment ≡ Some n) × (a.number < n)

-- A history with the places of its waiting, which have room for all fragments; some may wait.
pub record IsSchedule (h : HistoryOf) (ps : List Place) (capacity : ℕ) : Type 0 where
  pub queue : IsQueue h.plan h.state.statuses ps
  pub fits_all : length h.plan ≤ capacity
  pub some_room : 1 ≤ h.room
