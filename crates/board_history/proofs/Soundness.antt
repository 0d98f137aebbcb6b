-- An event that fits keeps a state sound.
use Rattle.std.proofs.Common.{◌≡◌, ◌≢◌, ℕ, zero, suc, ◌+◌, ◌<◌, ◌≤◌, ◌^◌, ⊎_elim, List, [], ◌∷◌, length, length-set, Option, Some, None, slice_get, slice_set, sym, ap, ◌∙◌, subst, arith}
use Rattle.board_history.specs.declared.attempt.Attempt.{Attempt}
use Rattle.board_history.specs.declared.status.FragmentStatus.{FragmentStatus}
use Rattle.board_history.specs.declared.status.FragmentStatus.TheVariants.{Waiting, Running}
use Rattle.board_history.specs.States.{State, moved, placed}
use Rattle.board_history.specs.Legal.{waits, waiting}
use Rattle.board_history.specs.Histories.{RunsAt, RunBy, IsSound, running_by, running}
use Rattle.board_history.proofs.Lists.{set_cases, set_other, set_here}

pub waiting_set : (ss : List FragmentStatus) (i : ℕ) (s old : FragmentStatus) → slice_get ss i ≡ Some old
    → waiting (slice_set ss i s) + waits old ≡ waiting ss + waits s
waiting_set [] i s old e = cc
waiting_set (x ∷ ss) zero s old e = let same : x ≡ old = cc in rw (sym same) (omega arith)
waiting_set (x ∷ ss) (suc i) s old e = omega (arith, waiting_set ss i s old e)

pub running_set : (rs : List (Option Attempt)) (i : ℕ) (r old : Option Attempt) → slice_get rs i ≡ Some old
    → running (slice_set rs i r) + running_by old ≡ running rs + running_by r
running_set [] i r old e = cc
running_set (x ∷ rs) zero r old e = let same : x ≡ old = cc in rw (sym same) (omega arith)
running_set (x ∷ rs) (suc i) r old e = omega (arith, running_set rs i r old e)

-- a fragment that doesn't run is elsewhere, and doesn't run
module _ (n m room : ℕ) (s : State) (f : ℕ) (old new : FragmentStatus) (sound : IsSound n m room s)
    (was : slice_get s.statuses f ≡ Some old) (stood : (a : Attempt) → old ≢ Running a) (stands : (a : Attempt) → new ≢ Running a) where
  moved_run : (k : ℕ) (a : Attempt) → slice_get s.runners k ≡ Some (Some a) → RunBy (moved s f new) k a
  moved_run k a e =
      let by = sound.run k a e in
      let apart : a.fragment ≢ f = λ h. stood a (let same : Some old ≡ Some (Running a) = sym was ∙ (ap (slice_get s.statuses) (sym h) ∙ by.status) in cc) in
      record { executor = by.executor; status = set_other s.statuses f a.fragment new apart ∙ by.status }

  moved_runs : (g : ℕ) (a : Attempt) → slice_get (slice_set s.statuses f new) g ≡ Some (Running a) → RunsAt (moved s f new) g a
  moved_runs g a e =
      ⊎_elim (λ p. absurd (stands a (sym p.1)))
      (λ p. let at = sound.runs g a p.1 in record { fragment = at.fragment; number = at.number; runner = at.runner; next = at.next })
      (set_cases s.statuses f g new (Running a) e)

  pub moved_sound : waiting (slice_set s.statuses f new) ≤ room → IsSound n m room (moved s f new)
  moved_sound few = record {
    statuses = length-set s.statuses f new ∙ sound.statuses;
    numbers = sound.numbers;
    runners = sound.runners;
    runs = moved_runs;
    run = moved_run;
    few = few;
  }

-- a fragment that doesn't run is started by an idle executor
module _ (n m room : ℕ) (s : State) (a : Attempt) (sound : IsSound n m room s)
    (was : slice_get s.statuses a.fragment ≡ Some Waiting) (idle : slice_get s.runners a.executor ≡ Some None)
    (number : slice_get s.numbers a.fragment ≡ Some a.number) (next : a.number + 1 < 2 ^ 32) where
  started_run : (k : ℕ) (r : Attempt) → slice_get (slice_set s.runners a.executor (Some a)) k ≡ Some (Some r) → RunBy (placed s a (Running a) (Some a)) k r
  started_run k r e =
      ⊎_elim
      (λ p. let same : a ≡ r = (let back : Some r ≡ Some a = p.1 in cc) in
      subst (λ (b : Attempt). RunBy (placed s a (Running a) (Some a)) k b) same
      (record { executor = sym p.0; status = set_here s.statuses a.fragment (Running a) Waiting was }))
      (λ p. let by = sound.run k r p.1 in
      let apart : r.fragment ≢ a.fragment = λ h. (let same : Some Waiting ≡ Some (Running r) = sym was ∙ (ap (slice_get s.statuses) (sym h) ∙ by.status) in cc) in
      record { executor = by.executor; status = set_other s.statuses a.fragment r.fragment (Running a) apart ∙ by.status })
      (set_cases s.runners a.executor k (Some a) (Some r) e)

  started_runs : (g : ℕ) (r : Attempt) → slice_get (slice_set s.statuses a.fragment (Running a)) g ≡ Some (Running r) → RunsAt (placed s a (Running a) (Some a)) g r
  started_runs g r e =
      ⊎_elim
      (λ p. let same : a ≡ r = (let back : Running r ≡ Running a = p.1 in cc) in
      subst (λ (b : Attempt). RunsAt (placed s a (Running a) (Some a)) g b) same
      (record {
        fragment = sym p.0;
        number = ap (slice_get s.numbers) p.0 ∙ number;
        runner = set_here s.runners a.executor (Some a) None idle;
        next = next;
      }))
      (λ p. let at = sound.runs g r p.1 in
      let apart : r.executor ≢ a.executor = λ h. (let same : ◌≡◌ {A = Option (Option Attempt)} (Some None) (Some (Some r)) = sym idle ∙ (ap (slice_get s.runners) (sym h) ∙ at.runner) in cc) in
      record { fragment = at.fragment; number = at.number; runner = set_other s.runners a.executor r.executor (Some a) apart ∙ at.runner; next = at.next })
      (set_cases s.statuses a.fragment g (Running a) (Running r) e)

  pub started_sound : IsSound n m room (placed s a (Running a) (Some a))
  started_sound = record {
    statuses = length-set s.statuses a.fragment (Running a) ∙ sound.statuses;
    numbers = sound.numbers;
    runners = length-set s.runners a.executor (Some a) ∙ sound.runners;
    runs = started_runs;
    run = started_run;
    few = omega (arith, waiting_set s.statuses a.fragment (Running a) Waiting was, sound.few);
  }

-- a running attempt is stopped or ends; its number stays, or becomes another one
module _ (n m room : ℕ) (s : State) (a : Attempt) (new : FragmentStatus) (numbers : List ℕ) (sound : IsSound n m room s)
    (was : slice_get s.statuses a.fragment ≡ Some (Running a)) (stands : (b : Attempt) → new ≢ Running b) (still : waits new ≡ 0)
    (others : (g : ℕ) → g ≢ a.fragment → slice_get numbers g ≡ slice_get s.numbers g) (as_many : length numbers ≡ length s.numbers) where
  abbrev ended : State
  ended = record {
    statuses = slice_set s.statuses a.fragment new;
    numbers = numbers;
    runners = slice_set s.runners a.executor None;
  }

  ended_run : (k : ℕ) (r : Attempt) → slice_get (slice_set s.runners a.executor None) k ≡ Some (Some r) → RunBy ended k r
  ended_run k r e =
      ⊎_elim (λ p. absurd (let no_one : Some r ≡ None = p.1 in cc))
      (λ p. let by = sound.run k r p.1 in
      let apart : r.fragment ≢ a.fragment = λ h.
      (let same : Some (Running a) ≡ Some (Running r) = sym was ∙ (ap (slice_get s.statuses) (sym h) ∙ by.status) in
      let one : a ≡ r = cc in p.0 (sym by.executor ∙ ap (λ (b : Attempt). b.executor) (sym one))) in
      record { executor = by.executor; status = set_other s.statuses a.fragment r.fragment new apart ∙ by.status })
      (set_cases s.runners a.executor k None (Some r) e)

  ended_runs : (g : ℕ) (r : Attempt) → slice_get (slice_set s.statuses a.fragment new) g ≡ Some (Running r) → RunsAt ended g r
  ended_runs g r e =
      ⊎_elim (λ p. absurd (stands r (sym p.1)))
      (λ p. let at = sound.runs g r p.1 in
      let mine = sound.runs a.fragment a was in
      let apart : r.executor ≢ a.executor = λ h.
      (let same : Some (Some a) ≡ Some (Some r) = sym mine.runner ∙ (ap (slice_get s.runners) (sym h) ∙ at.runner) in
      let one : a ≡ r = cc in p.0 (sym at.fragment ∙ ap (λ (b : Attempt). b.fragment) (sym one))) in
      record {
        fragment = at.fragment;
        number = others g p.0 ∙ at.number;
        runner = set_other s.runners a.executor r.executor None apart ∙ at.runner;
        next = at.next;
      })
      (set_cases s.statuses a.fragment g new (Running r) e)

  pub ended_sound : IsSound n m room ended
  ended_sound = record {
    statuses = length-set s.statuses a.fragment new ∙ sound.statuses;
    numbers = as_many ∙ sound.numbers;
    runners = length-set s.runners a.executor None ∙ sound.runners;
    runs = ended_runs;
    run = ended_run;
    few = omega (arith, waiting_set s.statuses a.fragment new (Running a) was, sound.few, still);
  }
