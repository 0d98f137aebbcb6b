-- A run on its way: it begins with nothing, goes on by a fragment, and ends with all of them.
use Rattle.std.proofs.Common.{◌≡◌, ◌≢◌, ◌≤◌, ◌+◌, inl, inr, ℕ, Bool, true, false, List, [], ◌∷◌, ◌++◌, length, Option, Some, refl, sym, ap, subst, arith, if◌then◌else◌}
use Rattle.std.specs.List.{slice_get}
use Rattle.std.proofs.lemmas.List.Elements.{All-nil, All-push}
use Rattle.outside.specs.Cause.{Rose}
use Rattle.outside.specs.Files.{Files}
use Rattle.fragment_plan.specs.declared.fragment.Fragment.{Fragment}
use Rattle.fragment_plan.specs.declared.fragment.Scan.{Scan}
use Rattle.fragment_plan.specs.declared.fragment.Work.{Work}
use Rattle.fragment_plan.specs.declared.fragment.Work.TheVariants as work
use Rattle.fragment_plan.specs.Bounds.{AllInBounds}
use Rattle.fragment_outcome.specs.declared.failure.Failure.{Failure}
use Rattle.fragment_outcome.specs.declared.failure.Failure.TheVariants as failure
use Rattle.fragment_outcome.specs.declared.outcome.Outcome.{Outcome}
use Rattle.fragment_outcome.specs.declared.outcome.Outcome.TheVariants as outcome
use Rattle.fragment_meaning.specs.PlanOutcomes.{IsFragmentOutcome, IsScanOutcome}
use Rattle.fragment_meaning.specs.ScanOutcome.{ScanMeans}
use Rattle.plan_run.specs.Reading.{AreFew, is_read_fault, is_unread, read_faults, unread_in}
use Rattle.plan_run.specs.Run.{HasRun, read_fault}
use Rattle.plan_run.specs.Steps.{HasBegun, IsRun, IsRunBy}
use Rattle.plan_run.specs.Words.{HasWords}
use Rattle.plan_run.proofs.Places.{at_front, at_end}
use Rattle.plan_run.proofs.Firsts.{one_more}

-- ---- read faults

read_is_failure : (why : Failure) → is_read_fault (outcome.Failure why) ≡ true → outcome.Failure why ≡ read_fault
read_is_failure failure.NoFile e = absurd cc
read_is_failure (failure.Compressed kind) e = absurd cc
read_is_failure (failure.BrokenTail fault) e = absurd cc
read_is_failure (failure.BrokenFooter stripe fault) e = absurd cc
read_is_failure (failure.BrokenColumn stripe column fault) e = absurd cc
read_is_failure (failure.NoColumn name) e = absurd cc
read_is_failure (failure.WrongKind name) e = absurd cc
read_is_failure failure.Overflow e = absurd cc
read_is_failure (failure.SourceFailed source) e = absurd cc
read_is_failure failure.ReadFault e = refl

pub read_is : (o : Outcome) → is_read_fault o ≡ true → o ≡ read_fault
read_is (outcome.Answer a) e = absurd cc
read_is (outcome.Failure why) e = read_is_failure why e

not_read : (o : Outcome) → is_read_fault o ≡ false → o ≢ read_fault
not_read o e is = let t : is_read_fault o ≡ true = ap is_read_fault is in absurd cc

by_read : (files : Files) (scan : Scan) (o : Outcome) (t : Bool) → is_read_fault o ≡ t → (o ≢ read_fault → ScanMeans files scan o) → IsScanOutcome files t scan o
by_read files scan o true e means = read_is o e
by_read files scan o false e means = means (not_read o e)

abbrev as_number : Bool → ℕ
as_number t = if t then 1 else 0

faults_more : (outcomes : List Outcome) (o : Outcome) → read_faults (outcomes ++ o ∷ []) ≡ read_faults outcomes + as_number (is_read_fault o)
faults_more [] o = omega arith
faults_more (p ∷ outcomes) o = omega (arith, faults_more outcomes o)

few_more : (f g h n : ℕ) (o : Outcome) (t : Bool) → is_read_fault o ≡ t → AreFew f g n
    → g ≤ h → (o ≡ read_fault → Rose g h) → AreFew f h (n + as_number t)
few_more f g h n o false e (inl few) later rose = inl (omega (arith, few, later))
few_more f g h n o false e (inr last) later rose = inr (omega (arith, last, later))
few_more f g h n o true e (inr last) later rose = inr (omega (arith, last, later))
few_more f g h n o true e (inl few) later rose = rise (rose (read_is o e))
  where
    rise : Rose g h → AreFew f h (n + 1)
    rise (inl lt) = inl (omega (arith, few, lt))
    rise (inr last) = inr last

-- ---- the run

pub begins : (told : Option Files) (f : ℕ) (plan : List Fragment) → HasBegun told f f plan []
begins told f plan = record {
  later = omega arith;
  meaning = λ files e number fragment o at there. absurd cc;
  few = inl (omega arith);
  worded = All-nil (HasWords (length plan));
}

scanned : (files : Files) (told : Option Files) (outcomes : List Outcome) (w : Work) (o : Outcome) → told ≡ Some files
    → IsRunBy told outcomes w o → IsFragmentOutcome files (unread_in (outcomes ++ o ∷ [])) outcomes (length outcomes) w o
scanned files told outcomes (work.Scan scan) o e is =
    subst (λ (t : Bool). IsScanOutcome files t scan o) (sym (ap is_unread (at_end outcomes o)))
    (by_read files scan o (is_read_fault o) refl (is files e))
scanned files told outcomes (work.Merge sources) o e is = is

pub goes_on : (told : Option Files) (f g h : ℕ) (plan : List Fragment) (outcomes : List Outcome) (number : ℕ) (o : Outcome) → AllInBounds plan → length outcomes ≡ number
    → HasBegun told f g plan outcomes → IsRun told plan number outcomes o → HasWords (length plan) o
    → g ≤ h → (o ≡ read_fault → Rose g h) → HasBegun told f h plan (outcomes ++ o ∷ [])
goes_on told f g h plan outcomes number o bounds long begun run words later rose = record {
  later = omega (arith, begun.later, later);
  meaning = λ files e. one_more files (unread_in outcomes) (unread_in (outcomes ++ o ∷ [])) plan outcomes o bounds
      (λ k lt. sym (ap is_unread (at_front outcomes o k lt))) (begun.meaning files e)
      (λ fragment at. scanned files told outcomes fragment.work o e (run fragment (subst (λ (n : ℕ). slice_get plan n ≡ Some fragment) long at)));
  few = subst (λ (n : ℕ). AreFew f h n) (sym (faults_more outcomes o)) (few_more f g h (read_faults outcomes) o (is_read_fault o) refl begun.few later rose);
  worded = All-push (HasWords (length plan)) outcomes o begun.worded words;
}

pub ends : (told : Option Files) (f g : ℕ) (plan : List Fragment) (outcomes : List Outcome) → length outcomes ≡ length plan
    → HasBegun told f g plan outcomes → HasRun told f g plan outcomes
ends told f g plan outcomes all begun = record {
  all = all;
  meaning = λ files e. record { all = all; each = begun.meaning files e };
  few = begun.few;
  worded = begun.worded;
}
