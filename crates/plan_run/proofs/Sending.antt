-- A text that goes out result by result.
use Rattle.std.proofs.Common.{◌≡◌, ◌≤◌, ◌+◌, ℕ, List, [], ◌++◌, length, take, drop, get_or, ◌<◌, Option, refl, sym, ◌∙◌, ap, subst, arith, append_assoc, length-append}
use Rattle.std.proofs.lemmas.List.{append-nil, at_drop_more, take-append-le}
use Rattle.std.proofs.Math.Seq.{take-append-add}
use Rattle.outside.specs.Told.{Extended, Extended-none, Extended-then}
use Rattle.fragment_plan.specs.declared.fragment.Fragment.{Fragment}
use Rattle.fragment_outcome.specs.declared.outcome.Outcome.{Outcome}
use Rattle.fragment_outcome.specs.Text.{result_text}
use Rattle.plan_run.specs.Output.{results_from}
use Rattle.plan_run.specs.Steps.{HasWritten}

pub nothing_written : (list : Option (List ℕ)) (whole : List ℕ) → HasWritten list list whole whole
nothing_written list whole = record { sent = []; all = refl; told = Extended-none list }

pub more_written : (before between after : Option (List ℕ)) (whole next rest : List ℕ) → HasWritten before between whole (next ++ rest)
    → Extended between after next → HasWritten before after whole rest
more_written before between after whole next rest w more = record {
  sent = w.sent ++ next;
  all = append_assoc w.sent next rest ∙ w.all;
  told = Extended-then before between after w.sent next w.told more;
}

pub all_written : (before after : Option (List ℕ)) (whole : List ℕ) → HasWritten before after whole [] → Extended before after whole
all_written before after whole w = subst (λ (s : List ℕ). Extended before after s) (sym (append-nil w.sent) ∙ w.all) w.told

-- a front of the next text was written: so a front of all
pub front_written : (before between after : Option (List ℕ)) (whole next rest : List ℕ) (n : ℕ) → HasWritten before between whole (next ++ rest)
    → n ≤ length next → Extended between after (take n next) → (m : ℕ) × (m ≤ length whole) × Extended before after (take m whole)
front_written before between after whole next rest n w few more =
    let sent : List ℕ = w.sent ++ take n next in
    let split : whole ≡ w.sent ++ (next ++ rest) = sym w.all in
    let is : take (length w.sent + n) whole ≡ sent =
    ap (λ (xs : List ℕ). take (length w.sent + n) xs) split ∙ take-append-add w.sent (next ++ rest) n
    ∙ ap (λ (xs : List ℕ). w.sent ++ xs) (take-append-le n next rest few) in
    let long = length-append w.sent (next ++ rest) in
    let longer = length-append next rest in
    (length w.sent + n, omega (arith, few, long, longer, ap length split), subst (λ (s : List ℕ). Extended before after s) (sym is) (Extended-then before between after w.sent (take n next) w.told more))

-- the text of the results that are left begins with that of the next
pub next_result : (plan : List Fragment) (outcomes : List Outcome) (k : ℕ) (o : Outcome) → k < length outcomes → o ≡ get_or outcomes k o
    → results_from plan k (drop k outcomes) ≡ result_text plan k o ++ results_from plan (k + 1) (drop (k + 1) outcomes)
next_result plan outcomes k o within is =
    at_drop_more (λ (xs : List Outcome). results_from plan k xs) outcomes k o within
    ∙ ap (λ (p : Outcome). result_text plan k p ++ results_from plan (k + 1) (drop (k + 1) outcomes)) (sym is)
