-- Counts over a legal history.
use Rattle.std.proofs.Common.{◌≡◌, ◌≢◌, ℕ, zero, suc, ◌+◌, ◌<◌, ◌≤◌, ◌⊎◌, inl, inr, ⊎_elim, Bool, true, false, nat_eq, if◌then◌else◌, List, [], ◌∷◌, length, Some, slice_get, slice_set, slice_index_or, replicate, refl, sym, ap, ◌∙◌, subst, arith}
use Rattle.std.proofs.lemmas.Bool.Decides.{nat_tests}
use Rattle.std.proofs.lemmas.Option.{get_or_from_slice_get}
use Rattle.fragment_plan.specs.declared.fragment.Fragment.{Fragment}
use Rattle.board_history.specs.declared.event.BoardEvent.{BoardEvent}
use Rattle.board_history.specs.declared.event.BoardEvent.TheVariants as event
use Rattle.board_history.specs.declared.status.FragmentStatus.{FragmentStatus}
use Rattle.board_history.specs.declared.status.FragmentStatus.TheVariants.{Absent, Waiting, Running, Finished, GaveUp}
use Rattle.board_history.specs.Order.{place_of, is_ended, ended_in}
use Rattle.board_history.specs.States.{State, start_of, step, replay}
use Rattle.board_history.specs.Legal.{Fits, Legal, Precedes, IsFirstWaiting, IsLastWaiting}
use Rattle.board_history.specs.Totals.{total, starts}
use Rattle.board_history.specs.Laws.{runs_there, running_in, ends, closes, stops}
use Rattle.board_history.proofs.Lists.{set_other, set_here}
use Rattle.board_history.proofs.LastBlocked.{same_or}
use Rattle.board_history.proofs.Orders.{before_itself, before_far}

abbrev one_if : Bool → ℕ
one_if t = if t then 1 else 0

-- two fragments that come before each other are none
no_circle : (plan : List Fragment) (statuses : List FragmentStatus) (f g : ℕ) → Precedes plan statuses f g → Precedes plan statuses g f → ⊥
no_circle plan statuses f g one two =
    let round = before_far (place_of plan statuses f) (place_of plan statuses g) (place_of plan statuses f) one two in
    let none = before_itself (place_of plan statuses f) in
    let both : true ≡ false = sym round ∙ none in cc

pub first_is_one : (plan : List Fragment) (statuses : List FragmentStatus) (f g : ℕ) → IsFirstWaiting plan statuses f → IsFirstWaiting plan statuses g → f ≡ g
first_is_one plan statuses f g one two =
    ⊎_elim (λ e. e)
    (λ apart. absurd (no_circle plan statuses f g (one.first g two.waits_there (λ h. apart (sym h))) (two.first f one.waits_there apart)))
    (same_or f g)

pub last_is_one : (plan : List Fragment) (statuses : List FragmentStatus) (f g : ℕ) → IsLastWaiting plan statuses f → IsLastWaiting plan statuses g → f ≡ g
last_is_one plan statuses f g one two =
    ⊎_elim (λ e. e)
    (λ apart. absurd (no_circle plan statuses g f (one.last g two.waits_there (λ h. apart (sym h))) (two.last f one.waits_there apart)))
    (same_or f g)

running_in_set : (ss : List FragmentStatus) (i : ℕ) (s old : FragmentStatus) → slice_get ss i ≡ Some old
    → running_in (slice_set ss i s) + runs_there old ≡ running_in ss + runs_there s
running_in_set [] i s old e = cc
running_in_set (x ∷ ss) zero s old e = let same : x ≡ old = cc in rw (sym same) (omega arith)
running_in_set (x ∷ ss) (suc i) s old e = omega (arith, running_in_set ss i s old e)

running_in_none : (n : ℕ) → running_in (replicate n Absent) ≡ 0
running_in_none zero = refl
running_in_none (suc n) = omega (arith, running_in_none n)

module _ (plan : List Fragment) (room : ℕ) where
  step_balance : (s : State) (e : BoardEvent) (es : List BoardEvent) → Fits plan room s e es
      → running_in s.statuses + starts e ≡ running_in (step s e).statuses + ends e
  step_balance s (event.Offered f) es fits = omega (arith, running_in_set s.statuses f Waiting Absent fits.0)
  step_balance s (event.Evicted g) es fits = omega (arith, running_in_set s.statuses g Absent Waiting fits.last.waits_there)
  step_balance s (event.Rejected f) es fits = refl
  step_balance s (event.Started a) es fits = omega (arith, running_in_set s.statuses a.fragment (Running a) Waiting fits.first.waits_there)
  step_balance s (event.Preempted v m) es fits = omega (arith, running_in_set s.statuses v.fragment Absent (Running v) fits.victim_is.runs)
  step_balance s (event.Finished a) es fits = omega (arith, running_in_set s.statuses a.fragment Finished (Running a) fits.runs)
  step_balance s (event.GaveUp a) es fits = omega (arith, running_in_set s.statuses a.fragment GaveUp (Running a) fits.runs)

  balance : (s : State) (es : List BoardEvent) → Legal plan room s es
      → running_in s.statuses + total starts es ≡ running_in (replay s es).statuses + total ends es
  balance s [] legal = refl
  balance s (e ∷ es) legal = omega (arith, step_balance s e es legal.0, balance (step s e) es legal.1)

  -- what is ended at a fragment stays so under a write to another one that isn't
  stays_by : (s : State) (f g : ℕ) (old new : FragmentStatus) → slice_get s.statuses g ≡ Some old → is_ended old ≡ false
      → ended_in (slice_get s.statuses f) ≡ true → (f ≢ g) × (ended_in (slice_get (slice_set s.statuses g new) f) ≡ true)
  stays_by s f g old new was live ended =
      let apart : f ≢ g = λ h. (let both : true ≡ false = sym ended ∙ (ap (λ n. ended_in (slice_get s.statuses n)) h ∙ (ap ended_in was ∙ live)) in cc) in
      (apart, ap ended_in (set_other s.statuses g f new apart) ∙ ended)

  not_closed : (f g : ℕ) → f ≢ g → one_if (nat_eq g f) ≡ 0
  not_closed f g apart = grind (arith, nat_tests)

  stays : (s : State) (e : BoardEvent) (es : List BoardEvent) (f : ℕ) → Fits plan room s e es → ended_in (slice_get s.statuses f) ≡ true
      → (closes f e ≡ 0) × (ended_in (slice_get (step s e).statuses f) ≡ true)
  stays s (event.Offered g) es f fits ended = (refl, (stays_by s f g Absent Waiting fits.0 refl ended).1)
  stays s (event.Evicted g) es f fits ended = (refl, (stays_by s f g Waiting Absent fits.last.waits_there refl ended).1)
  stays s (event.Rejected g) es f fits ended = (refl, ended)
  stays s (event.Started a) es f fits ended = (refl, (stays_by s f a.fragment Waiting (Running a) fits.first.waits_there refl ended).1)
  stays s (event.Preempted v m) es f fits ended = (refl, (stays_by s f v.fragment (Running v) Absent fits.victim_is.runs refl ended).1)
  stays s (event.Finished a) es f fits ended =
      let both = stays_by s f a.fragment (Running a) Finished fits.runs refl ended in (not_closed f a.fragment both.0, both.1)
  stays s (event.GaveUp a) es f fits ended =
      let both = stays_by s f a.fragment (Running a) GaveUp fits.runs refl ended in (not_closed f a.fragment both.0, both.1)

  -- a fragment that has ended doesn't end again
  ended_for_good : (s : State) (es : List BoardEvent) (f : ℕ) → Legal plan room s es → ended_in (slice_get s.statuses f) ≡ true → total (closes f) es ≡ 0
  ended_for_good s [] f legal ended = refl
  ended_for_good s (e ∷ es) f legal ended =
      let both = stays s e es f legal.0 ended in
      omega (arith, both.0, ended_for_good (step s e) es f legal.1 both.1)

  closes_by : (s : State) (g f : ℕ) (old new : FragmentStatus) (t : Bool) → nat_eq g f ≡ t → slice_get s.statuses g ≡ Some old → is_ended new ≡ true
      → (one_if t ≡ 0) ⊎ ((one_if t ≡ 1) × (ended_in (slice_get (slice_set s.statuses g new) f) ≡ true))
  closes_by s g f old new false e was ended = inl refl
  closes_by s g f old new true e was ended =
      let same : g ≡ f = grind (arith, nat_tests) in
      inr (refl, ap (λ n. ended_in (slice_get (slice_set s.statuses g new) n)) (sym same) ∙ (ap ended_in (set_here s.statuses g new old was) ∙ ended))

  closed_or : (s : State) (e : BoardEvent) (es : List BoardEvent) (f : ℕ) → Fits plan room s e es
      → (closes f e ≡ 0) ⊎ ((closes f e ≡ 1) × (ended_in (slice_get (step s e).statuses f) ≡ true))
  closed_or s (event.Offered g) es f fits = inl refl
  closed_or s (event.Evicted g) es f fits = inl refl
  closed_or s (event.Rejected g) es f fits = inl refl
  closed_or s (event.Started a) es f fits = inl refl
  closed_or s (event.Preempted v m) es f fits = inl refl
  closed_or s (event.Finished a) es f fits = closes_by s a.fragment f (Running a) Finished (nat_eq a.fragment f) refl fits.runs refl
  closed_or s (event.GaveUp a) es f fits = closes_by s a.fragment f (Running a) GaveUp (nat_eq a.fragment f) refl fits.runs refl

  once : (s : State) (es : List BoardEvent) (f : ℕ) → Legal plan room s es → total (closes f) es ≤ 1
  once s [] f legal = omega arith
  once s (e ∷ es) f legal =
      ⊎_elim (λ none. omega (arith, none, once (step s e) es f legal.1))
      (λ one. omega (arith, one.0, ended_for_good (step s e) es f legal.1 one.1))
      (closed_or s e es f legal.0)

  pub ends_once : (executors : ℕ) (es : List BoardEvent) (f : ℕ) → Legal plan room (start_of plan executors) es → total (closes f) es ≤ 1
  ends_once executors es f legal = once (start_of plan executors) es f legal

  pub started_balance : (executors : ℕ) (es : List BoardEvent) → Legal plan room (start_of plan executors) es
      → total starts es ≡ running_in (replay (start_of plan executors) es).statuses + total ends es
  started_balance executors es legal = omega (arith, balance (start_of plan executors) es legal, running_in_none (length plan))

number_by : (ns : List ℕ) (g f n : ℕ) (t : Bool) → nat_eq g f ≡ t → slice_get ns f ≡ Some n
    → slice_get (slice_set ns g (slice_index_or ns g 0 + 1)) f ≡ Some (n + one_if t)
number_by ns g f n true e is =
    let same : g ≡ f = grind (arith, nat_tests) in
    subst (λ k. slice_get (slice_set ns k (slice_index_or ns k 0 + 1)) f ≡ Some (n + 1)) (sym same)
    (set_here ns f (slice_index_or ns f 0 + 1) n is ∙ ap (λ k. Some (k + 1)) (get_or_from_slice_get ns f n 0 is))
number_by ns g f n false e is =
    let apart : f ≢ g = (λ h. absurd (grind (arith, nat_tests))) in
    set_other ns g f (slice_index_or ns g 0 + 1) apart ∙ (is ∙ ap Some (omega arith))

step_number : (s : State) (e : BoardEvent) (f n : ℕ) → slice_get s.numbers f ≡ Some n → slice_get (step s e).numbers f ≡ Some (n + stops f e)
step_number s (event.Offered g) f n is = is ∙ ap Some (omega arith)
step_number s (event.Evicted g) f n is = is ∙ ap Some (omega arith)
step_number s (event.Rejected g) f n is = is ∙ ap Some (omega arith)
step_number s (event.Started a) f n is = is ∙ ap Some (omega arith)
step_number s (event.Preempted v m) f n is = number_by s.numbers v.fragment f n (nat_eq v.fragment f) refl is
step_number s (event.Finished a) f n is = is ∙ ap Some (omega arith)
step_number s (event.GaveUp a) f n is = is ∙ ap Some (omega arith)

numbers_rise : (s : State) (es : List BoardEvent) (f n : ℕ) → slice_get s.numbers f ≡ Some n
    → slice_get (replay s es).numbers f ≡ Some (n + total (stops f) es)
numbers_rise s [] f n is = is ∙ ap Some (omega arith)
numbers_rise s (e ∷ es) f n is =
    numbers_rise (step s e) es f (n + stops f e) (step_number s e f n is) ∙ ap Some (omega arith)

one_there : (n f : ℕ) → f < n → slice_get {X = ℕ} (replicate n 1) f ≡ Some 1
one_there zero f h = absurd (omega (arith, h))
one_there (suc n) zero h = refl
one_there (suc n) (suc f) h = one_there n f (omega (arith, h))

pub numbers_count : (plan : List Fragment) (executors : ℕ) (es : List BoardEvent) (f : ℕ) → f < length plan
    → slice_get (replay (start_of plan executors) es).numbers f ≡ Some (1 + total (stops f) es)
numbers_count plan executors es f h = numbers_rise (start_of plan executors) es f 1 (one_there (length plan) f h)
