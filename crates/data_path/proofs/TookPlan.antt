-- A plan that was read from its source.
use Rattle.std.proofs.Common.{◌≡◌, ◌<◌, ◌≤◌, ℕ, Bool, true, false, nat_lt, List, length, take, Option, Some, Ok, Err, refl, sym, ◌∙◌, ap, arith, ltb-true}
use Rattle.std.proofs.lemmas.Bool.{ltb-false}
use Rattle.std.proofs.lemmas.List.{drop_all, length-take, take_all}
use Rattle.plan_words.specs.declared.fault.PlanKind.TheVariants as kind
use Rattle.fragment_plan.specs.declared.fragment.Fragment.{Fragment}
use Rattle.fragment_plan.specs.Plan.{plan_of}
use Rattle.data_path.specs.PlanBytes.{GaveFront, TookPlan, most_read}

too_long : (bytes : List ℕ) (t : Bool) → nat_lt 1048576 (length bytes) ≡ t → 1048576 < length bytes → plan_of bytes ≡ Err (0, kind.TooLong)
unfolding plan_of
too_long bytes true t long = rw t refl
too_long bytes false t long = absurd (omega (arith, ltb-false 1048576 (length bytes) t, long))

read_few : (bytes : List ℕ) (plan : List Fragment) (t : Bool) → nat_lt 1048576 (length bytes) ≡ t → plan_of bytes ≡ Ok plan → length bytes ≤ 1048576
unfolding plan_of
read_few bytes plan true t e = let e' = rw t at e in absurd cc
read_few bytes plan false t e = ltb-false 1048576 (length bytes) t

same_by : (all bytes : List ℕ) (t : Bool) → nat_lt most_read (length all) ≡ t → bytes ≡ take most_read all → plan_of all ≡ plan_of bytes
same_by all bytes true t is =
    let long = ltb-true most_read (length all) t in
    let short = length-take most_read all in
    too_long all (nat_lt 1048576 (length all)) refl (omega (arith, long))
    ∙ sym (too_long bytes (nat_lt 1048576 (length bytes)) refl (omega (arith, long, short, ap length is)))
same_by all bytes false t is = ap plan_of (sym (is ∙ take_all most_read all (ltb-false most_read (length all) t)))

pub took_plan : (left left' : Option (List ℕ)) (bytes : List ℕ) → GaveFront left left' most_read bytes → TookPlan left left' bytes
took_plan left left' bytes front = record {
  front = front;
  same = λ all e. same_by all bytes (nat_lt most_read (length all)) refl (front all e).0;
  whole = λ plan all read e.
      let gave = front all e in
      let few = read_few bytes plan (nat_lt 1048576 (length bytes)) refl read in
      let short = length-take most_read all in
      let within : length all ≤ most_read = omega (arith, few, short, ap length gave.0) in
      (gave.0 ∙ take_all most_read all within, gave.1 ∙ ap Some (drop_all most_read all within));
}
