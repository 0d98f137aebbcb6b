-- A run in which no read failed.
use Rattle.std.proofs.Common.{◌≡◌, ◌+◌, inl, inr, ℕ, zero, suc, Bool, true, false, List, [], ◌∷◌, refl, subst, arith, if◌then◌else◌}
use Rattle.outside.specs.Cause.{Rose}
use Rattle.outside.specs.Files.{Files}
use Rattle.fragment_plan.specs.declared.fragment.Work.{Work}
use Rattle.fragment_plan.specs.declared.fragment.Work.TheVariants as work
use Rattle.fragment_outcome.specs.declared.outcome.Outcome.{Outcome}
use Rattle.fragment_meaning.specs.PlanOutcomes.{IsFragmentOutcome, IsScanOutcome, all_read}
use Rattle.plan_run.specs.Laws.{QuietRunsMeanThePlan}
use Rattle.plan_run.specs.Reading.{AreFew, is_read_fault, read_faults, unread_in}

abbrev as_number : Bool → ℕ
as_number t = if t then 1 else 0

is_none : (t : Bool) (n : ℕ) → as_number t + n ≡ 0 → (t ≡ false) × (n ≡ 0)
is_none true n e = absurd (omega (arith, e))
is_none false n e = (refl, omega (arith, e))

none_unread : (outcomes : List Outcome) → read_faults outcomes ≡ 0 → (k : ℕ) → unread_in outcomes k ≡ false
none_unread [] e k = refl
none_unread (o ∷ outcomes) e zero = (is_none (is_read_fault o) (read_faults outcomes) e).0
none_unread (o ∷ outcomes) e (suc k) = none_unread outcomes (is_none (is_read_fault o) (read_faults outcomes) e).1 k

was_read : (files : Files) (u : ℕ → Bool) (outcomes : List Outcome) (number : ℕ) (w : Work) (o : Outcome) → u number ≡ false
    → IsFragmentOutcome files u outcomes number w o → IsFragmentOutcome files all_read outcomes number w o
was_read files u outcomes number (work.Scan scan) o read is = subst (λ (t : Bool). IsScanOutcome files t scan o) read is
was_read files u outcomes number (work.Merge sources) o read is = is

none_of_few : (f g n : ℕ) → ¬ Rose f g → AreFew f g n → n ≡ 0
none_of_few f g zero quiet few = refl
none_of_few f g (suc n) quiet (inl few) = absurd (quiet (inl (omega (arith, few))))
none_of_few f g (suc n) quiet (inr last) = absurd (quiet (inr last))

pub quiet_runs_mean_the_plan : QuietRunsMeanThePlan
quiet_runs_mean_the_plan told f g plan outcomes files run e quiet =
    let none = none_of_few f g (read_faults outcomes) quiet run.few in
    let are = run.meaning files e in
    record {
      all = are.all;
      each = λ number fragment o at there.
          was_read files (unread_in outcomes) outcomes number fragment.work o (none_unread outcomes none number) (are.each number fragment o at there);
    }
