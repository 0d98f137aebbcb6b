-- The outcomes of the first fragments of a plan, and of one more.
use Rattle.std.proofs.Common.{◌≡◌, ◌<◌, ℕ, suc, Bool, List, [], ◌∷◌, ◌++◌, length, Some, refl, sym, ◌∙◌, ap, subst, arith, length-append, below_more}
use Rattle.std.specs.List.{slice_get}
use Rattle.std.proofs.lemmas.Option.{same_Some, slice_get_within, get_or_from_slice_get}
use Rattle.outside.specs.Files.{Files}
use Rattle.fragment_plan.specs.declared.fragment.Fragment.{Fragment}
use Rattle.fragment_plan.specs.declared.fragment.Work.{Work}
use Rattle.fragment_plan.specs.declared.fragment.Work.TheVariants as work
use Rattle.fragment_plan.specs.Bounds.{AllInBounds, InBounds, WorkInBounds}
use Rattle.fragment_outcome.specs.declared.outcome.Outcome.{Outcome}
use Rattle.fragment_meaning.specs.PlanOutcomes.{IsFragmentOutcome, IsScanOutcome, merge_outcome}
use Rattle.plan_run.specs.Steps.{AreFirst}
use Rattle.plan_run.proofs.Places.{at_front, at_end}
use Rattle.plan_run.proofs.Merges.{answers_same}

-- what holds of the fragment at a place of a plan in bounds
pub bounds_at : (plan : List Fragment) (number : ℕ) (fragment : Fragment) → AllInBounds plan → slice_get plan number ≡ Some fragment → WorkInBounds number fragment.work
bounds_at plan number fragment bounds at =
    let within = slice_get_within plan number fragment at in
    let is = get_or_from_slice_get plan number fragment fragment at in
    (subst (λ (f : Fragment). InBounds number f) is (bounds number fragment within)).work_is

-- an outcome stays one where the outcomes below its number stay, and whether it was read
pub stays : (files : Files) (u v : ℕ → Bool) (a b : List Outcome) (number : ℕ) (w : Work) (o : Outcome) → u number ≡ v number
    → ((k : ℕ) → k < number → slice_get a k ≡ slice_get b k) → WorkInBounds number w → IsFragmentOutcome files u a number w o
    → IsFragmentOutcome files v b number w o
stays files u v a b number (work.Scan scan) o read same bounds is = subst (λ (t : Bool). IsScanOutcome files t scan o) read is
stays files u v a b number (work.Merge sources) o read same bounds is = is ∙ ap merge_outcome (answers_same a b number sources bounds same)

-- one outcome more
pub one_more : (files : Files) (u v : ℕ → Bool) (plan : List Fragment) (outcomes : List Outcome) (o : Outcome) → AllInBounds plan
    → ((k : ℕ) → k < length outcomes → u k ≡ v k) → AreFirst files u plan outcomes
    → ((fragment : Fragment) → slice_get plan (length outcomes) ≡ Some fragment → IsFragmentOutcome files v outcomes (length outcomes) fragment.work o)
    → AreFirst files v plan (outcomes ++ o ∷ [])
one_more files u v plan outcomes o bounds read firsts last number fragment p at there =
    let within = slice_get_within (outcomes ++ o ∷ []) number p there in
    let long = length-append outcomes (o ∷ []) in
    below_more P (length outcomes) below here number (omega (arith, within, long)) fragment p at there
  where
    P : ℕ → Type 0
    P k = (f : Fragment) (q : Outcome) → slice_get plan k ≡ Some f → slice_get (outcomes ++ o ∷ []) k ≡ Some q
        → IsFragmentOutcome files v (outcomes ++ o ∷ []) k f.work q

    kept : (n : ℕ) → n < suc (length outcomes) → (k : ℕ) → k < n → slice_get outcomes k ≡ slice_get (outcomes ++ o ∷ []) k
    kept n few k lt = sym (at_front outcomes o k (omega (arith, few, lt)))

    below : (k : ℕ) → k < length outcomes → P k
    below k lt f q placed found =
        stays files u v outcomes (outcomes ++ o ∷ []) k f.work q (read k lt) (kept k (omega (arith, lt))) (bounds_at plan k f bounds placed)
        (firsts k f q placed (sym (at_front outcomes o k lt) ∙ found))

    here : P (length outcomes)
    here f q placed found =
        let same : o ≡ q = same_Some o q (sym (at_end outcomes o) ∙ found) in
        subst (λ (r : Outcome). IsFragmentOutcome files v (outcomes ++ o ∷ []) (length outcomes) f.work r) same
        (stays files v v outcomes (outcomes ++ o ∷ []) (length outcomes) f.work o refl (kept (length outcomes) (omega arith))
        (bounds_at plan (length outcomes) f bounds placed) (last f placed))
