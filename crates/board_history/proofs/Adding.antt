-- A history with an event more keeps what its type says.
use Rattle.std.proofs.Common.{◌≡◌, ◌≢◌, ℕ, zero, suc, ◌+◌, ◌<◌, ◌≤◌, ◌^◌, Bool, true, false, nat_lt, List, [], ◌∷◌, ◌++◌, length, length-set, Option, Some, None, slice_get, slice_set, slice_index_or, replicate, refl, sym, ap, ◌∙◌, subst, arith}
use Rattle.std.proofs.lemmas.Option.{slice_get_within, get_or_from_slice_get}
use Rattle.std.proofs.lemmas.List.{length-replicate}
use Rattle.std.proofs.lemmas.Bool.Decides.{nat_tests}
use Rattle.std.specs.Bool.{MatchBool}
use Rattle.fragment_plan.specs.declared.fragment.Fragment.{Fragment}
use Rattle.board_history.specs.declared.attempt.Attempt.{Attempt}
use Rattle.board_history.specs.declared.event.BoardEvent.{BoardEvent}
use Rattle.board_history.specs.declared.event.BoardEvent.TheVariants as event
use Rattle.board_history.specs.declared.status.FragmentStatus.TheVariants.{Absent, Waiting, Running, Finished, GaveUp}
use Rattle.board_history.specs.States.{State, start_of, step, replay, moved}
use Rattle.board_history.specs.Legal.{waiting, Fits, Legal, IsCurrent}
use Rattle.board_history.specs.Histories.{HistoryOf, IsSound, IsHistory, running}
use Rattle.board_history.proofs.Lists.{set_other, none_there}
use Rattle.board_history.proofs.Replays.{replay-append, Legal-append}
use Rattle.board_history.proofs.Soundness.{waiting_set, running_set, moved_sound, started_sound, ended_sound}

pub running_few : (rs : List (Option Attempt)) → running rs ≤ length rs
running_few [] = omega arith
running_few (None ∷ rs) = omega (arith, running_few rs)
running_few (Some a ∷ rs) = omega (arith, running_few rs)

-- where an executor runs an attempt, one is busy
pub some_busy : (rs : List (Option Attempt)) (k : ℕ) (a : Attempt) → slice_get rs k ≡ Some (Some a) → 1 ≤ running rs
some_busy rs k a e = omega (arith, running_set rs k None (Some a) e)

some_idle : (rs : List (Option Attempt)) → running rs < length rs → (k : ℕ) × (slice_get rs k ≡ Some None)
some_idle [] h = absurd (omega (arith, h))
some_idle (None ∷ rs) h = (0, refl)
some_idle (Some a ∷ rs) h = let more = some_idle rs (omega (arith, h)) in (suc more.0, more.1)

all_busy : (rs : List (Option Attempt)) → length rs ≤ running rs → (k : ℕ) → slice_get rs k ≢ Some None
all_busy [] h k e = cc
all_busy (None ∷ rs) h k e = absurd (omega (arith, h, running_few rs))
all_busy (Some a ∷ rs) h zero e = cc
all_busy (Some a ∷ rs) h (suc k) e = all_busy rs (omega (arith, h)) k e

idle_by : (rs : List (Option Attempt)) (b l : ℕ) (t : Bool) → nat_lt b l ≡ t → b ≡ running rs → l ≡ length rs
    → MatchBool t ((k : ℕ) × (slice_get rs k ≡ Some None)) ((k : ℕ) → slice_get rs k ≢ Some None)
idle_by rs b l true e p q = some_idle rs (grind (arith, nat_tests))
idle_by rs b l false e p q = all_busy rs (grind (arith, nat_tests))

-- fewer are busy than there are: one is idle
pub has_idle : (rs : List (Option Attempt)) (b l : ℕ) → b ≡ running rs → l ≡ length rs
    → MatchBool (nat_lt b l) ((k : ℕ) × (slice_get rs k ≡ Some None)) ((k : ℕ) → slice_get rs k ≢ Some None)
has_idle rs b l p q = idle_by rs b l (nat_lt b l) refl p q

waiting_none : (n : ℕ) → waiting (replicate n Absent) ≡ 0
waiting_none zero = refl
waiting_none (suc n) = omega (arith, waiting_none n)

pub running_none : (n : ℕ) → running (replicate n None) ≡ 0
running_none zero = refl
running_none (suc n) = omega (arith, running_none n)

-- nothing happened yet
pub no_events : (plan : List Fragment) (executors room : ℕ) → length plan < 2 ^ 32
    → IsHistory (record { plan = plan; executors = executors; room = room; events = []; state = start_of plan executors })
no_events plan executors room few = record {
  state_is = refl;
  legal = tt;
  sound = record {
    statuses = length-replicate (length plan) Absent;
    numbers = length-replicate (length plan) 1;
    runners = length-replicate executors None;
    runs = λ f a e. absurd (none_there (length plan) f Absent (Running a) (λ h. cc) e);
    run = λ k a e. absurd (none_there executors k None (Some a) (λ h. cc) e);
    few = omega (arith, waiting_none (length plan));
  };
  fragments = few;
}

-- further events that are legal there
module _ (h : HistoryOf) (events more : List BoardEvent) (is : IsHistory h) (longer : events ≡ h.events ++ more) where
  abbrev after : HistoryOf
  after = record { plan = h.plan; executors = h.executors; room = h.room; events = events; state = replay h.state more }

  pub add_events : Legal h.plan h.room h.state more → IsSound (length h.plan) h.executors h.room (replay h.state more) → IsHistory after
  add_events legal sound = record {
    state_is = ap (λ s. replay s more) is.state_is ∙ (sym (replay-append (start_of h.plan h.executors) h.events more)
        ∙ ap (replay (start_of h.plan h.executors)) (sym longer));
    legal = subst (Legal h.plan h.room (start_of h.plan h.executors)) (sym longer)
        (Legal-append h.plan h.room (start_of h.plan h.executors) h.events more is.legal (subst (λ s. Legal h.plan h.room s more) is.state_is legal));
    sound = sound;
    fragments = is.fragments;
  }

-- an attempt that runs, in a history of this value
pub record Reaches (h : HistoryOf) (a : Attempt) : Type 0 where
  pub fragment : a.fragment < length h.state.statuses
  pub number : a.fragment < length h.state.numbers
  pub executor : a.executor < length h.state.runners
  pub is_busy : 1 ≤ running h.state.runners
  pub then_idle : running (slice_set h.state.runners a.executor None) + 1 ≡ running h.state.runners
  pub current : slice_get h.state.numbers a.fragment ≡ Some a.number
  pub next : a.number + 1 < 2 ^ 32

pub reaches : (h k : HistoryOf) (a : Attempt) → IsHistory h → h ≡ k → slice_get k.state.statuses a.fragment ≡ Some (Running a) → Reaches h a
reaches h k a is view runs =
    let here : slice_get h.state.statuses a.fragment ≡ Some (Running a) = ap (λ (b : HistoryOf). slice_get b.state.statuses a.fragment) view ∙ runs in
    let at = is.sound.runs a.fragment a here in
    let one : running (slice_set h.state.runners a.executor None) + 1 ≡ running h.state.runners + 0 =
    running_set h.state.runners a.executor None (Some a) at.runner in
    record {
      fragment = slice_get_within h.state.statuses a.fragment (Running a) here;
      number = slice_get_within h.state.numbers a.fragment a.number at.number;
      executor = slice_get_within h.state.runners a.executor (Some a) at.runner;
      is_busy = omega (arith, one);
      then_idle = omega (arith, one);
      current = at.number;
      next = at.next;
    }

-- the number that was found is the current one
pub read_number : (h : HistoryOf) (a : Attempt) (number : ℕ) → IsHistory h → slice_get h.state.statuses a.fragment ≡ Some (Running a)
    → number ≡ slice_index_or h.state.numbers a.fragment number → number ≡ slice_index_or h.state.numbers a.fragment 0
read_number h a number is runs found =
    let at = is.sound.runs a.fragment a runs in
    found ∙ (get_or_from_slice_get h.state.numbers a.fragment a.number number at.number
    ∙ sym (get_or_from_slice_get h.state.numbers a.fragment a.number 0 at.number))

-- a state with the attempt stopped, and this number the next
abbrev pub stopped : State → Attempt → ℕ → State
stopped s v next = record {
  statuses = slice_set s.statuses v.fragment Absent;
  numbers = slice_set s.numbers v.fragment next;
  runners = slice_set s.runners v.executor None;
}

abbrev FitsIn : HistoryOf → BoardEvent → List BoardEvent → Type 0
FitsIn h e after = Fits h.plan h.room h.state e after

module _ (h k : HistoryOf) (events : List BoardEvent) (is : IsHistory h) (view : h ≡ k) where
  pub add_offered : (f : ℕ) → FitsIn k (event.Offered f) [] → events ≡ h.events ++ event.Offered f ∷ []
      → IsHistory (record { plan = h.plan; executors = h.executors; room = h.room; events = events; state = step h.state (event.Offered f) })
  add_offered f fits-there longer =
      let fits : FitsIn h (event.Offered f) [] = subst (λ (b : HistoryOf). FitsIn b (event.Offered f) []) (sym view) fits-there in
      add_events h events (event.Offered f ∷ []) is longer (fits, tt)
      (moved_sound (length h.plan) h.executors h.room h.state f Absent Waiting is.sound fits.0 (λ a e. cc) (λ a e. cc)
      (omega (arith, waiting_set h.state.statuses f Waiting Absent fits.0, fits.1)))

  pub add_rejected : (f : ℕ) → FitsIn k (event.Rejected f) [] → events ≡ h.events ++ event.Rejected f ∷ []
      → IsHistory (record { plan = h.plan; executors = h.executors; room = h.room; events = events; state = h.state })
  add_rejected f fits-there longer =
      let fits : FitsIn h (event.Rejected f) [] = subst (λ (b : HistoryOf). FitsIn b (event.Rejected f) []) (sym view) fits-there in
      add_events h events (event.Rejected f ∷ []) is longer (fits, tt) is.sound

  pub add_started : (a : Attempt) → FitsIn k (event.Started a) [] → a.number + 1 < 2 ^ 32 → events ≡ h.events ++ event.Started a ∷ []
      → IsHistory (record { plan = h.plan; executors = h.executors; room = h.room; events = events; state = step h.state (event.Started a) })
  add_started a fits-there next longer =
      let fits : FitsIn h (event.Started a) [] = subst (λ (b : HistoryOf). FitsIn b (event.Started a) []) (sym view) fits-there in
      add_events h events (event.Started a ∷ []) is longer (fits, tt)
      (started_sound (length h.plan) h.executors h.room h.state a is.sound fits.first.waits_there fits.idle fits.number next)

  pub add_preempted : (v : Attempt) (f number : ℕ) → FitsIn k (event.Preempted v f) [] → number ≡ slice_index_or h.state.numbers v.fragment number
      → events ≡ h.events ++ event.Preempted v f ∷ []
      → IsHistory (record { plan = h.plan; executors = h.executors; room = h.room; events = events; state = stopped h.state v (number + 1) })
  add_preempted v f number fits-there found longer =
      let fits : FitsIn h (event.Preempted v f) [] = subst (λ (b : HistoryOf). FitsIn b (event.Preempted v f) []) (sym view) fits-there in
      let next = slice_index_or h.state.numbers v.fragment 0 + 1 in
      let same : next ≡ number + 1 = ap (λ n. n + 1) (sym (read_number h v number is fits.victim_is.runs found)) in
      subst (λ n. IsHistory (record { plan = h.plan; executors = h.executors; room = h.room; events = events; state = stopped h.state v n })) same
      (add_events h events (event.Preempted v f ∷ []) is longer (fits, tt)
      (ended_sound (length h.plan) h.executors h.room h.state v Absent (slice_set h.state.numbers v.fragment next) is.sound fits.victim_is.runs (λ b e. cc) refl
      (λ g apart. set_other h.state.numbers v.fragment g next apart) (length-set h.state.numbers v.fragment next)))

  pub add_finished : (a : Attempt) → IsCurrent k.state a → events ≡ h.events ++ event.Finished a ∷ []
      → IsHistory (record { plan = h.plan; executors = h.executors; room = h.room; events = events; state = step h.state (event.Finished a) })
  add_finished a fits-there longer =
      let fits : IsCurrent h.state a = subst (λ (b : HistoryOf). IsCurrent b.state a) (sym view) fits-there in
      add_events h events (event.Finished a ∷ []) is longer (fits, tt)
      (ended_sound (length h.plan) h.executors h.room h.state a Finished h.state.numbers is.sound fits.runs (λ b e. cc) refl (λ g apart. refl) refl)

  pub add_gave_up : (a : Attempt) → IsCurrent k.state a → events ≡ h.events ++ event.GaveUp a ∷ []
      → IsHistory (record { plan = h.plan; executors = h.executors; room = h.room; events = events; state = step h.state (event.GaveUp a) })
  add_gave_up a fits-there longer =
      let fits : IsCurrent h.state a = subst (λ (b : HistoryOf). IsCurrent b.state a) (sym view) fits-there in
      add_events h events (event.GaveUp a ∷ []) is longer (fits, tt)
      (ended_sound (length h.plan) h.executors h.room h.state a GaveUp h.state.numbers is.sound fits.runs (λ b e. cc) refl (λ g apart. refl) refl)

-- the last of the waiting leaves, and the next is offered
pub evicted_then : (h : HistoryOf) (g f : ℕ) → FitsIn h (event.Evicted g) (event.Offered f ∷ []) → Fits h.plan h.room (moved h.state g Absent) (event.Offered f) []
evicted_then h g f fits =
    let same : fits.made_for.0 ≡ f = (let e = fits.made_for.1 in cc) in
    let absent = subst (λ n. slice_get h.state.statuses n ≡ Some Absent) same fits.made_for.2 in
    let apart : f ≢ g = λ e. (let both : Some Absent ≡ Some Waiting = sym absent ∙ (ap (slice_get h.state.statuses) e ∙ fits.last.waits_there) in cc) in
    (set_other h.state.statuses g f Absent apart ∙ absent, omega (arith, waiting_set h.state.statuses g Absent Waiting fits.last.waits_there, fits.full))

pub add_evicted : (h k : HistoryOf) (events : List BoardEvent) (g f : ℕ) → IsHistory h → h ≡ k → FitsIn k (event.Evicted g) (event.Offered f ∷ [])
    → events ≡ h.events ++ event.Evicted g ∷ event.Offered f ∷ []
    → IsHistory (record { plan = h.plan; executors = h.executors; room = h.room; events = events; state = step (step h.state (event.Evicted g)) (event.Offered f) })
add_evicted h k events g f is view fits-there longer =
    let fits : FitsIn h (event.Evicted g) (event.Offered f ∷ []) = subst (λ (b : HistoryOf). FitsIn b (event.Evicted g) (event.Offered f ∷ [])) (sym view) fits-there in
    let s = moved h.state g Absent in
    let then = evicted_then h g f fits in
    let fewer : waiting s.statuses + 1 ≡ waiting h.state.statuses + 0 = waiting_set h.state.statuses g Absent Waiting fits.last.waits_there in
    let mid : IsSound (length h.plan) h.executors h.room s =
    moved_sound (length h.plan) h.executors h.room h.state g Waiting Absent is.sound fits.last.waits_there (λ a e. cc) (λ a e. cc) (omega (arith, fewer, fits.full)) in
    add_events h events (event.Evicted g ∷ event.Offered f ∷ []) is longer (fits, (then, tt))
    (moved_sound (length h.plan) h.executors h.room s f Absent Waiting mid then.0 (λ a e. cc) (λ a e. cc)
    (omega (arith, waiting_set s.statuses f Waiting Absent then.0, then.1)))

-- where the two fragments are
pub evicted_within : (h k : HistoryOf) (g f : ℕ) → h ≡ k → FitsIn k (event.Evicted g) (event.Offered f ∷ [])
    → (g < length h.state.statuses) × (f < length h.state.statuses)
evicted_within h k g f view fits-there =
    let fits : FitsIn h (event.Evicted g) (event.Offered f ∷ []) = subst (λ (b : HistoryOf). FitsIn b (event.Evicted g) (event.Offered f ∷ [])) (sym view) fits-there in
    let same : fits.made_for.0 ≡ f = (let e = fits.made_for.1 in cc) in (
      slice_get_within h.state.statuses g Waiting fits.last.waits_there,
      slice_get_within h.state.statuses f Absent (subst (λ n. slice_get h.state.statuses n ≡ Some Absent) same fits.made_for.2),
    )
