-- What whoever scans did in a run, fragment by fragment. Source: this project's own.
use Rattle.std.specs.Prelude.{◌≡◌, ℕ, ◌+◌, List, [], ◌∷◌, None, IsSome}
use Rattle.fragment_plan.specs.declared.fragment.Fragment.{Fragment}
use Rattle.fragment_outcome.specs.declared.outcome.Outcome.{Outcome}
use Rattle.fragment_folds.specs.Scans.{scan_at}

module _ {S : Type 0} (scanned : S → List Fragment → ℕ → Outcome → S → Type 0) (plan : List Fragment) where
  -- a fragment has this outcome: where it is a scan it was scanned, and else nothing was done
  pub record IsStep (number : ℕ) (o : Outcome) (old new : S) : Type 0 where
    pub scan : IsSome (scan_at plan number) → scanned old plan number o new
    pub merge : scan_at plan number ≡ None → new ≡ old

  -- the fragments from a number on have these outcomes, one after the other
  abbrev pub AreSteps : ℕ → List Outcome → S → S → Type 0
  AreSteps number [] old new = new ≡ old
  AreSteps number (o ∷ os) old new = (mid : S) × IsStep number o old mid × AreSteps (number + 1) os mid new
