-- A plan has outcomes, and they are one list.
use Rattle.std.proofs.Common.{◌≡◌, ℕ, zero, suc, ◌+◌, ◌<◌, ◌≤◌, Bool, true, false, List, [], ◌∷◌, ◌++◌, length, length-append, Option, Some, Result, slice_get, slice_index_or, unwrap_or, below_more, refl, sym, ap, ◌∙◌, subst, arith}
use Rattle.std.proofs.lemmas.List.{append_assoc, same_lists}
use Rattle.std.proofs.lemmas.Option.{slice_get_within, get_or_from_slice_get, unwrap_or-slice_get}
use Rattle.outside.specs.Files.{Files}
use Rattle.fragment_plan.specs.declared.fragment.Fragment.{Fragment}
use Rattle.fragment_plan.specs.declared.fragment.Work.{Work}
use Rattle.fragment_plan.specs.declared.fragment.Work.TheVariants as work
use Rattle.fragment_plan.specs.Bounds.{WorkInBounds, AllInBounds}
use Rattle.fragment_outcome.specs.declared.answer.Answer.{Answer}
use Rattle.fragment_outcome.specs.declared.failure.Failure.TheVariants as failure
use Rattle.fragment_outcome.specs.declared.outcome.Outcome.{Outcome}
use Rattle.fragment_meaning.specs.ScanOutcome.{failed}
use Rattle.fragment_meaning.specs.PlanOutcomes.{with_source, answers_of, merge_outcome, IsScanOutcome, IsFragmentOutcome, AreOutcomes}
use Rattle.fragment_meaning.specs.Laws.{ScansHaveOutcomes, OutcomesAreOne}
use Rattle.plan_meaning.specs.Laws.{PlansHaveOutcomes, OutcomesOfPlansAreOne}

in_front : {A : Type 0} (xs ys : List A) (k : ℕ) → k < length xs → slice_get (xs ++ ys) k ≡ slice_get xs k
in_front [] ys k h = absurd (omega (arith, h))
in_front (x ∷ xs) ys zero h = refl
in_front (x ∷ xs) ys (suc k) h = in_front xs ys k (omega (arith, h))

there_is : {A : Type 0} (xs : List A) (n : ℕ) → n < length xs → (x : A) × (slice_get xs n ≡ Some x)
there_is [] n h = absurd (omega (arith, h))
there_is (x ∷ xs) zero h = (x, refl)
there_is (x ∷ xs) (suc n) h = there_is xs n (omega (arith, h))

-- ---- where outcomes agree on all sources, a merge has the same outcome

abbrev AgreeBelow : ℕ → List Outcome → List Outcome → Type 0
AgreeBelow n a b = (k : ℕ) → k < n → slice_get a k ≡ slice_get b k

abbrev EachBelow : ℕ → List ℕ → Type 0
EachBelow n sources = (k d : ℕ) → k < length sources → slice_index_or sources k d < n

same_answers : (n : ℕ) (a b : List Outcome) (sources : List ℕ) → AgreeBelow n a b → EachBelow n sources → answers_of a sources ≡ answers_of b sources
same_answers n a b [] agree below = refl
same_answers n a b (source ∷ sources) agree below =
    let first = agree source (below 0 source (omega arith)) in
    let others = same_answers n a b sources agree (λ k d h. below (suc k) d (omega (arith, h))) in
    ap (λ (o : Option Outcome). with_source source o (answers_of a sources)) first
    ∙ ap (λ (r : Result (List Answer) ℕ). with_source source (slice_get b source) r) others

same_outcome : (files : Files) (unread : ℕ → Bool) (n : ℕ) (a b : List Outcome) (w : Work) (o : Outcome) → AgreeBelow n a b → WorkInBounds n w
    → IsFragmentOutcome files unread a n w o → IsFragmentOutcome files unread b n w o
same_outcome files unread n a b (work.Scan scan) o agree within is = is
same_outcome files unread n a b (work.Merge sources) o agree within is = is ∙ ap merge_outcome (same_answers n a b sources agree within)

-- ---- outcomes exist

module _ (files : Files) (unread : ℕ → Bool) where
  scan_has : ScansHaveOutcomes → (t : Bool) (n : ℕ) (w : Work) (before : List Outcome) → unread n ≡ t → (o : Outcome) × IsFragmentOutcome files unread before n w o
  scan_has scans true n (work.Scan scan) before e =
      (failed failure.ReadFault, subst (λ (u : Bool). IsScanOutcome files u scan (failed failure.ReadFault)) (sym e) refl)
  scan_has scans false n (work.Scan scan) before e =
      let one = scans files scan in (one.0, subst (λ (u : Bool). IsScanOutcome files u scan one.0) (sym e) one.1)
  scan_has scans t n (work.Merge sources) before e = (merge_outcome (answers_of before sources), refl)

  abbrev Behind : List Outcome → List Fragment → List Outcome → Type 0
  Behind before fragments more =
      (i : ℕ) (fragment : Fragment) (o : Outcome) → slice_get fragments i ≡ Some fragment → slice_get more i ≡ Some o
      → IsFragmentOutcome files unread (before ++ more) (length before + i) fragment.work o

  abbrev BoundsFrom : ℕ → List Fragment → Type 0
  BoundsFrom n fragments = (i : ℕ) (fragment : Fragment) → slice_get fragments i ≡ Some fragment → WorkInBounds (n + i) fragment.work

  first_is : (before more : List Outcome) (w : Work) (o : Outcome) → WorkInBounds (length before) w
      → IsFragmentOutcome files unread before (length before) w o → IsFragmentOutcome files unread (before ++ more) (length before) w o
  first_is before more w o within is =
      same_outcome files unread (length before) before (before ++ more) w o (λ k h. sym (in_front before more k h)) within is

  behind_one : (before more : List Outcome) (f : Fragment) (fs : List Fragment) (o : Outcome) → WorkInBounds (length before) f.work
      → IsFragmentOutcome files unread before (length before) f.work o → Behind (before ++ o ∷ []) fs more → Behind before (f ∷ fs) (o ∷ more)
  behind_one before more f fs o within is others zero fragment p e q =
      let same : f ≡ fragment = cc in
      let answer : o ≡ p = cc in
      let none : length before ≡ length before + 0 = omega arith in
      subst (λ (n : ℕ). IsFragmentOutcome files unread (before ++ o ∷ more) n fragment.work p) none
      (subst (λ (g : Fragment). IsFragmentOutcome files unread (before ++ o ∷ more) (length before) g.work p) same
      (subst (λ (u : Outcome). IsFragmentOutcome files unread (before ++ o ∷ more) (length before) f.work u) answer
      (first_is before (o ∷ more) f.work o within is)))
  behind_one before more f fs o within is others (suc i) fragment p e q =
      let step : length (before ++ o ∷ []) + i ≡ length before + suc i = omega (arith, length-append before (o ∷ [])) in
      subst (λ (n : ℕ). IsFragmentOutcome files unread (before ++ o ∷ more) n fragment.work p) step
      (subst (λ (all : List Outcome). IsFragmentOutcome files unread all (length (before ++ o ∷ []) + i) fragment.work p) (append_assoc before (o ∷ []) more)
      (others i fragment p e q))

  build : ScansHaveOutcomes → (before : List Outcome) (fragments : List Fragment) → BoundsFrom (length before) fragments
      → (more : List Outcome) × (length more ≡ length fragments) × Behind before fragments more
  build scans before [] bounds = ([], refl, (λ i fragment o e q. cc))
  build scans before (f ∷ fs) bounds =
      let none : length before + 0 ≡ length before = omega arith in
      let within : WorkInBounds (length before) f.work = subst (λ (n : ℕ). WorkInBounds n f.work) none (bounds 0 f refl) in
      let o = scan_has scans (unread (length before)) (length before) f.work before refl in
      let step : (i : ℕ) → length before + suc i ≡ length (before ++ o.0 ∷ []) + i = (λ i. omega (arith, length-append before (o.0 ∷ []))) in
      let rest = build scans (before ++ o.0 ∷ []) fs
      (λ i fragment e. subst (λ (n : ℕ). WorkInBounds n fragment.work) (step i) (bounds (suc i) fragment e)) in
      (o.0 ∷ rest.0, ap suc rest.1, behind_one before rest.0 f fs o.0 within o.1 rest.2)

-- a fragment's numbers lie in bounds
within_plan : (plan : List Fragment) → AllInBounds plan → (i : ℕ) (fragment : Fragment) → slice_get plan i ≡ Some fragment → WorkInBounds i fragment.work
within_plan plan bounds i fragment e =
    subst (λ (g : Fragment). WorkInBounds i g.work) (get_or_from_slice_get plan i fragment fragment e)
    (bounds i fragment (slice_get_within plan i fragment e)).work_is

pub plans_have_outcomes : ScansHaveOutcomes → PlansHaveOutcomes
plans_have_outcomes scans files unread plan bounds =
    let none : (i : ℕ) → i ≡ 0 + i = (λ i. omega arith) in
    let made = build files unread scans [] plan
    (λ i fragment e. subst (λ (n : ℕ). WorkInBounds n fragment.work) (none i) (within_plan plan bounds i fragment e)) in (
      made.0,
      record {
        all = made.1;
        each = λ number fragment o e q.
            subst (λ (n : ℕ). IsFragmentOutcome files unread made.0 n fragment.work o) (sym (none number)) (made.2 number fragment o e q);
      },
    )

-- ---- and are one list

module _ (files : Files) (unread : ℕ → Bool) where
  one_outcome : OutcomesAreOne → (n : ℕ) (a b : List Outcome) (w : Work) (o p : Outcome) → AgreeBelow n a b → WorkInBounds n w
      → IsFragmentOutcome files unread a n w o → IsFragmentOutcome files unread b n w p → o ≡ p
  one_outcome scans n a b (work.Scan scan) o p agree within x y = by_read (unread n) x y where
    by_read : (t : Bool) → IsScanOutcome files t scan o → IsScanOutcome files t scan p → o ≡ p
    by_read true x y = x ∙ sym y
    by_read false x y = scans files scan o p x y
  one_outcome scans n a b (work.Merge sources) o p agree within x y = x ∙ (ap merge_outcome (same_answers n a b sources agree within) ∙ sym y)

  module _ (scans : OutcomesAreOne) (plan : List Fragment) (bounds : AllInBounds plan) (a b : List Outcome) where
    same_there : AreOutcomes files unread plan a → AreOutcomes files unread plan b → (n : ℕ) → n < length plan → AgreeBelow n a b
        → slice_get a n ≡ slice_get b n
    same_there x y n within agree =
        let f = there_is plan n within in
        let o = there_is a n (omega (arith, within, x.all)) in
        let p = there_is b n (omega (arith, within, y.all)) in
        o.1
        ∙ (ap Some (one_outcome scans n a b f.0.work o.0 p.0 agree (within_plan plan bounds n f.0 f.1) (x.each n f.0 o.0 f.1 o.1) (y.each n f.0 p.0 f.1 p.1))
        ∙ sym p.1)

    agree : AreOutcomes files unread plan a → AreOutcomes files unread plan b → (n : ℕ) → n ≤ length plan → AgreeBelow n a b
    agree x y zero most k h = absurd (omega (arith, h))
    agree x y (suc n) most k h =
        let below = agree x y n (omega (arith, most)) in
        below_more (λ (i : ℕ). slice_get a i ≡ slice_get b i) n below (same_there x y n (omega (arith, most)) below) k (omega (arith, h))

pub outcomes_of_plans_are_one : OutcomesAreOne → OutcomesOfPlansAreOne
outcomes_of_plans_are_one scans files unread plan a b bounds x y =
    same_lists a b (x.all ∙ sym y.all)
    (λ k d h.
    (let same = agree files unread scans plan bounds a b x y (length plan) (omega arith) k (omega (arith, h, x.all)) in
    sym (unwrap_or-slice_get a k d) ∙ (ap (λ (o : Option Outcome). unwrap_or o d) same ∙ unwrap_or-slice_get b k d)))
