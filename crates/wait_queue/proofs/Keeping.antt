-- Each call keeps that a fragment has an answer exactly where it is finished.
use Rattle.std.proofs.Common.{◌≡◌, ℕ, zero, suc, ◌+◌, ◌⊎◌, inl, inr, ⊎_elim, Bool, true, false, List, [], ◌∷◌, ◌++◌, length, length-set, map, replicate, Option, Some, None, Result, Ok, Err, IfOk, IfSome, OnErr, Bor, is_some, IsSome, option_map, slice_get, slice_set, refl, sym, ap, ◌∙◌, subst, arith}
use Rattle.std.specs.Option.{option_copied}
use Rattle.std.proofs.lemmas.List.{length-replicate}
use Rattle.std.proofs.lemmas.Option.{slice_get-map}
use Rattle.outside.specs.Files.{Files}
use Rattle.fragment_plan.specs.declared.fragment.Fragment.{Fragment}
use Rattle.fragment_outcome.specs.declared.answer.Answer.{Answer}
use Rattle.kept_results.specs.Kept.{IsKept}
use Rattle.board_history.specs.declared.attempt.Attempt.{Attempt}
use Rattle.board_history.specs.declared.event.BoardEvent.TheVariants as event
use Rattle.board_history.specs.declared.status.FragmentStatus.{FragmentStatus}
use Rattle.board_history.specs.declared.status.FragmentStatus.TheVariants.{Absent, Waiting, Running, Finished, GaveUp}
use Rattle.board_history.specs.Histories.{HistoryOf, no_history, after_event}
use Rattle.board_schedule.specs.declared.answer.Offer.{Offer}
use Rattle.board_schedule.specs.declared.answer.Offer.TheVariants.{Accepted, EvictedOther, Rejected}
use Rattle.board_schedule.specs.declared.answer.Preempt.{Preempt}
use Rattle.board_schedule.specs.declared.answer.Finish.{Finish}
use Rattle.board_schedule.specs.declared.answer.Finish.TheVariants.{Kept, Stale}
use Rattle.board_schedule.specs.Schedule.{Offers, Starts, Reviews, Ends}
use Rattle.wait_queue.specs.Boards.{HasAnswers, is_finished}

replicate_suc : {A : Type 0} (n : ℕ) (x : A) → replicate n x ++ x ∷ [] ≡ replicate (suc n) x
replicate_suc zero x = refl
replicate_suc (suc n) x = ap (λ l. x ∷ l) (replicate_suc n x)

pub replicate_more : {A : Type 0} (n : ℕ) (x : A) → replicate n x ++ x ∷ [] ≡ replicate (n + 1) x
replicate_more n x = replicate_suc n x ∙ ap (λ k. replicate k x) (let e : suc n ≡ n + 1 = omega arith in e)

-- ---- lists after a write

-- a fragment is elsewhere, and finished as little or as much as before
same_there : (ss : List FragmentStatus) (f : ℕ) (old new : FragmentStatus) → slice_get ss f ≡ Some old → is_finished new ≡ is_finished old
    → map is_finished (slice_set ss f new) ≡ map is_finished ss
same_there [] f old new e same = cc
same_there (s ∷ ss) zero old new e same =
    let is : s ≡ old = cc in ap (λ b. b ∷ map is_finished ss) (same ∙ ap is_finished (sym is))
same_there (s ∷ ss) (suc f) old new e same = ap (λ bs. is_finished s ∷ bs) (same_there ss f old new e same)

still_there : (ss : List FragmentStatus) (g f : ℕ) (s : FragmentStatus) → slice_get ss f ≡ Some s → slice_get (slice_set ss g s) f ≡ Some s
still_there [] g f s e = e
still_there (x ∷ ss) zero zero s e = refl
still_there (x ∷ ss) zero (suc f) s e = e
still_there (x ∷ ss) (suc g) zero s e = e
still_there (x ∷ ss) (suc g) (suc f) s e = still_there ss g f s e

-- a fragment finished, and has an answer now
both_there : (answers : List (Option Answer)) (ss : List FragmentStatus) (f : ℕ) (a : Answer) → map is_some answers ≡ map is_finished ss
    → map is_some (slice_set answers f (Some a)) ≡ map is_finished (slice_set ss f Finished)
both_there [] [] f a e = refl
both_there [] (s ∷ ss) f a e = cc
both_there (r ∷ rs) [] f a e = cc
both_there (r ∷ rs) (s ∷ ss) zero a e = cc
both_there (r ∷ rs) (s ∷ ss) (suc f) a e =
    let first : is_some r ≡ is_finished s = cc in
    let others : map is_some rs ≡ map is_finished ss = cc in
    let more = both_there rs ss f a others in cc

-- what stands somewhere after a write
set_cases : {A : Type 0} (xs : List A) (i k : ℕ) (v y : A) → slice_get (slice_set xs i v) k ≡ Some y
    → ((k ≡ i) × (y ≡ v)) ⊎ (slice_get xs k ≡ Some y)
set_cases [] i k v y e = cc
set_cases (x ∷ xs) zero zero v y e = inl (refl, cc)
set_cases (x ∷ xs) zero (suc k) v y e = inr e
set_cases (x ∷ xs) (suc i) zero v y e = inr e
set_cases (x ∷ xs) (suc i) (suc k) v y e =
    ⊎_elim (λ p. inl (ap suc p.0, p.1)) (λ p. inr p) (set_cases xs i k v y e)

-- ---- what a call leaves: the plan, and which fragments finished

pub record SameFinished (h new : HistoryOf) : Type 0 where
  pub plan : new.plan ≡ h.plan
  pub finished : map is_finished new.state.statuses ≡ map is_finished h.state.statuses

same_by : (h new k : HistoryOf) → SameFinished h k → new ≡ k → SameFinished h new
same_by h new k same e = subst (λ (b : HistoryOf). SameFinished h b) (sym e) same

unchanged : (h new : HistoryOf) → new ≡ h → SameFinished h new
unchanged h new e = same_by h new h (record { plan = refl; finished = refl }) e

offer_keeps : (h new : HistoryOf) (f : ℕ) (r : Offer) → slice_get h.state.statuses f ≡ Some Absent → Offers h f r new → SameFinished h new
offer_keeps h new f Accepted absent is =
    same_by h new _ (record { plan = refl; finished = same_there h.state.statuses f Absent Waiting absent refl }) is.1
offer_keeps h new f (EvictedOther g) absent is =
    let ss = slice_set h.state.statuses g Absent in
    same_by h new _ (record {
      plan = refl;
      finished = same_there ss f Absent Waiting (still_there h.state.statuses g f Absent absent) refl
          ∙ same_there h.state.statuses g Waiting Absent is.1.waits_there refl;
    }) is.3
offer_keeps h new f Rejected absent is = same_by h new _ (record { plan = refl; finished = refl }) is.1

start_keeps : (h new : HistoryOf) (executor : ℕ) (r : Option Attempt) → Starts h executor r new → SameFinished h new
start_keeps h new executor None is = unchanged h new is.1
start_keeps h new executor (Some a) is =
    same_by h new _ (record { plan = refl; finished = same_there h.state.statuses a.fragment Waiting (Running a) is.0.waits_there refl }) is.3

pub review_keeps : (h new : HistoryOf) (r : Option Preempt) → Reviews h r new → SameFinished h new
review_keeps h new None is = unchanged h new is.1
review_keeps h new (Some p) is =
    same_by h new _ (record {
      plan = refl;
      finished = same_there h.state.statuses p.victim.fragment (Running p.victim) Absent is.0.victim_is.runs refl;
    }) is.1

pub give_up_keeps : (h new : HistoryOf) (a : Attempt) (r : Finish) → Ends h a (event.GaveUp a) r new → SameFinished h new
give_up_keeps h new a Kept is =
    same_by h new _ (record { plan = refl; finished = same_there h.state.statuses a.fragment (Running a) GaveUp is.0.runs refl }) is.1
give_up_keeps h new a (Stale current) is = unchanged h new is.2

pub offered_keeps : {E : Type 0} (h new : HistoryOf) (f : ℕ) (r : Result Offer E) → slice_get h.state.statuses f ≡ Some Absent
    → IfOk r (λ offer. Offers h f offer new) → OnErr r (new ≡ h) → SameFinished h new
offered_keeps h new f (Ok offer) absent ok err = offer_keeps h new f offer absent ok
offered_keeps h new f (Err e) absent ok err = unchanged h new err

pub started_keeps : {E : Type 0} (h new : HistoryOf) (executor : ℕ) (r : Result (Option Attempt) E)
    → IfOk r (λ started. Starts h executor started new) → OnErr r (new ≡ h) → SameFinished h new
started_keeps h new executor (Ok started) ok err = start_keeps h new executor started ok
started_keeps h new executor (Err e) ok err = unchanged h new err

-- ---- the invariant

module _ (told : Option Files) where
  abbrev Has : HistoryOf → List (Option Answer) → Type 0
  Has h answers = HasAnswers told (record { history = h; answers = answers })

  pub answers_kept : (h new : HistoryOf) (answers : List (Option Answer)) → Has h answers → SameFinished h new → Has new answers
  answers_kept h new answers is same = record {
    all = is.all ∙ ap length (sym same.plan);
    finished = is.finished ∙ sym same.finished;
    kept = λ f a e. subst (λ (p : List Fragment). IsKept told p f a) (sym same.plan) (is.kept f a e);
  }

  -- an attempt finished, and its answer is kept
  after_finish : (h : HistoryOf) (answers : List (Option Answer)) (a : Attempt) (answer : Answer) → Has h answers
      → IsKept told h.plan a.fragment answer → Has (after_event h (event.Finished a)) (slice_set answers a.fragment (Some answer))
  after_finish h answers a answer is new = record {
    all = length-set answers a.fragment (Some answer) ∙ is.all;
    finished = both_there answers h.state.statuses a.fragment answer is.finished;
    kept = λ f b e.
        ⊎_elim
        (λ here. let same : b ≡ answer = (let both : Some b ≡ Some answer = here.1 in cc) in
        subst (λ (c : Answer). IsKept told h.plan f c) (sym same) (subst (λ n. IsKept told h.plan n answer) (sym here.0) new))
        (λ old. is.kept f b old)
        (set_cases answers a.fragment f (Some answer) (Some b) e);
  }

  pub answer_added : (h new : HistoryOf) (answers : List (Option Answer)) (a : Attempt) (answer : Answer) → Has h answers
      → IsKept told h.plan a.fragment answer → new ≡ after_event h (event.Finished a) → Has new (slice_set answers a.fragment (Some answer))
  answer_added h new answers a answer is kept e =
      subst (λ (b : HistoryOf). Has b (slice_set answers a.fragment (Some answer))) (sym e) (after_finish h answers a answer is kept)

  abbrev no_answer : Option Answer
  no_answer = None

  none_finished : (n : ℕ) → map is_some (replicate n no_answer) ≡ map is_finished (replicate n Absent)
  none_finished zero = refl
  none_finished (suc n) = ap (λ bs. false ∷ bs) (none_finished n)

  none_there : (n f : ℕ) (a : Answer) → slice_get (replicate n None) f ≡ Some (Some a) → ⊥
  none_there zero f a e = cc
  none_there (suc n) zero a e = cc
  none_there (suc n) (suc f) a e = none_there n f a e

  none_yet : (plan : List Fragment) (executors room : ℕ) → Has (no_history plan executors room) (replicate (length plan) None)
  none_yet plan executors room = record {
    all = length-replicate (length plan) None;
    finished = none_finished (length plan);
    kept = λ f a e. absurd (none_there (length plan) f a e);
  }

  pub nothing_kept : (plan : List Fragment) (executors room count : ℕ) (h : HistoryOf) (answers : List (Option Answer))
      → h ≡ no_history plan executors room → answers ≡ replicate count None → count ≡ length plan → Has h answers
  nothing_kept plan executors room count h answers is none same =
      subst (λ (k : HistoryOf). Has k answers) (sym is)
      (subst (λ (xs : List (Option Answer)). Has (no_history plan executors room) xs) (sym (none ∙ ap (λ n. replicate n None) same)) (none_yet plan executors room))

  -- ---- what is lent of a fragment

  finished_by : (o : Option FragmentStatus) (x : Option Answer) → Some (is_some x) ≡ option_map is_finished o
      → (IsSome x → o ≡ Some Finished) × (o ≡ Some Finished → IsSome x)
  finished_by None x e = cc
  finished_by (Some Absent) x e = ((λ h. let both : Some true ≡ Some false = (ap Some (sym h) ∙ e) in absurd (cc)), (λ h. cc))
  finished_by (Some Waiting) x e = ((λ h. let both : Some true ≡ Some false = (ap Some (sym h) ∙ e) in absurd (cc)), (λ h. cc))
  finished_by (Some (Running a)) x e = ((λ h. let both : Some true ≡ Some false = (ap Some (sym h) ∙ e) in absurd (cc)), (λ h. cc))
  finished_by (Some Finished) x e = ((λ h. refl), (λ h. (let b : is_some x ≡ true = cc in b)))
  finished_by (Some GaveUp) x e = ((λ h. let both : Some true ≡ Some false = (ap Some (sym h) ∙ e) in absurd (cc)), (λ h. cc))

  pub finished_there : (h : HistoryOf) (answers : List (Option Answer)) (f : ℕ) (x : Option Answer) → Has h answers → slice_get answers f ≡ Some x
      → (IsSome x → slice_get h.state.statuses f ≡ Some Finished) × (slice_get h.state.statuses f ≡ Some Finished → IsSome x)
  finished_there h answers f x is e =
      finished_by (slice_get h.state.statuses f) x
      (ap (option_map is_some) (sym e) ∙ (sym (slice_get-map is_some answers f)
      ∙ (ap (λ (bs : List Bool). slice_get bs f) is.finished ∙ slice_get-map is_finished h.state.statuses f)))

  pub lent_kept : (plan : List Fragment) (f : ℕ) (r : Option (Bor Answer)) (x : Option Answer) → option_copied r ≡ x
      → ((a : Answer) → x ≡ Some a → IsKept told plan f a) → IfSome r (λ answer. IsKept told plan f answer.now)
  lent_kept plan f None x e kept = tt
  lent_kept plan f (Some b) x e kept = kept b.now (sym e)
