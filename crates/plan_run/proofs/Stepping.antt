-- Fragments of a run, one after the other.
use Rattle.std.proofs.Common.{◌≡◌, ◌<◌, ℕ, ◌+◌, List, [], ◌∷◌, length, get_or, refl, sym, ap, ◌∙◌, subst, arith}
use Rattle.std.specs.Prelude.{◌++◌, Option, None, Some, IsSome}
use Rattle.std.proofs.lemmas.Option.{slice_get-get_or}
use Rattle.fragment_plan.specs.declared.fragment.Fragment.{Fragment}
use Rattle.fragment_plan.specs.declared.fragment.Scan.{Scan}
use Rattle.fragment_plan.specs.declared.fragment.Work.{Work}
use Rattle.fragment_outcome.specs.declared.outcome.Outcome.{Outcome}
use Rattle.fragment_folds.specs.Scans.{scan_at, scan_in, scan_of}
use Rattle.plan_run.specs.Scanned.{AreSteps, IsStep}

-- the scan that a fragment is, by its work
pub scan_by_work : (plan fragments : List Fragment) (number : ℕ) (other : Fragment) (w : Work) → number < length plan → fragments ≡ plan
    → (get_or fragments number other).work ≡ w → scan_at plan number ≡ scan_of w
scan_by_work plan fragments number other w below same is =
    ap scan_in (slice_get-get_or plan number other below)
    ∙ ap (λ (fs : List Fragment). scan_of (get_or fs number other).work) (sym same) ∙ ap scan_of is

module _ {S : Type 0} (scanned : S → List Fragment → ℕ → Outcome → S → Type 0) (plan : List Fragment) where
  -- a fragment that is a scan
  pub a_scan : (number : ℕ) (scan : Scan) (o : Outcome) (old new : S) → scan_at plan number ≡ Some scan → scanned old plan number o new
      → IsStep scanned plan number o old new
  a_scan number scan o old new is done = record { scan = λ some. done; merge = λ none. absurd cc }

  -- one that isn't
  pub a_merge : (number : ℕ) (o : Outcome) (s : S) → scan_at plan number ≡ None → IsStep scanned plan number o s s
  a_merge number o s is =
      record {
        scan = λ some. (let no : IsSome {T = Scan} None = subst (λ (found : Option Scan). IsSome found) is some in absurd cc);
        merge = λ none. refl;
      }

  pub step_more : (os : List Outcome) (o : Outcome) (number k : ℕ) (s t u : S) → k ≡ number + length os
      → AreSteps scanned plan number os s t → IsStep scanned plan k o t u → AreSteps scanned plan number (os ++ o ∷ []) s u
  step_more [] o number k s t u e same step =
      let here : k ≡ number = omega (arith, e) in (
        u,
        subst (λ (x : S). IsStep scanned plan number o x u) same (subst (λ (n : ℕ). IsStep scanned plan n o t u) here step),
        refl,
      )
  step_more (x ∷ os) o number k s t u e steps step =
      (steps.0, steps.1, step_more os o (number + 1) k steps.0 t u (omega (arith, e)) steps.2 step)
