-- A plan that was read has at most 1,000 fragments.
use Rattle.std.proofs.Common.{◌≡◌, ◌<◌, ◌≤◌, ℕ, suc, Bool, true, false, nat_lt, List, [], ◌∷◌, ◌++◌, length, position, Option, Some, None, Result, Ok, Err, refl, ap, arith, length-append, ltb-true}
use Rattle.std.specs.Str.{bytes_eq}
use Rattle.plan_words.specs.declared.fault.PlanKind.{PlanKind}
use Rattle.plan_words.specs.Reading.{and_then, end_of_line, name}
use Rattle.plan_words.specs.Lines.{is_skipped, lines_of, without_return}
use Rattle.fragment_plan.specs.declared.fragment.Fragment.{Fragment}
use Rattle.fragment_plan.specs.declared.shape.Shape.{Shape}
use Rattle.plan_names.specs.Sources.{after, fresh, new_name}
use Rattle.fragment_plan.specs.Shapes.{shapes_of}
use Rattle.fragment_plan.specs.Fragments.{fragment_of, line, names_of, shaped, work}
use Rattle.fragment_plan.specs.Plan.{on_line, plan_from, plan_of, with_line}
use Rattle.plan_run.specs.Laws.{PlansAreShort}

inv : {A B : Type 0} (r : Result A PlanKind) (f : A → Result B PlanKind) (y : B) → and_then r f ≡ Ok y → (x : A) × (r ≡ Ok x) × (f x ≡ Ok y)
inv (Ok x) f y e = (x, refl, e)
inv (Err k) f y e = absurd cc

fresh_if : (earlier : List (List ℕ)) (found left : List ℕ) (y : List ℕ × List ℕ) (t : Bool) → nat_lt (length earlier) 1000 ≡ t
    → fresh None earlier found left ≡ Ok y → length earlier < 1000
fresh_if earlier found left y true t e = ltb-true (length earlier) 1000 t
fresh_if earlier found left y false t e = let e' = rw t at e in absurd cc

fresh_few : (o : Option ℕ) (earlier : List (List ℕ)) (found left : List ℕ) (y : List ℕ × List ℕ) → fresh o earlier found left ≡ Ok y → length earlier < 1000
fresh_few (Some number) earlier found left y e = absurd cc
fresh_few None earlier found left y e = fresh_if earlier found left y (nat_lt (length earlier) 1000) refl e

new_name_few : (earlier : List (List ℕ)) (left : List ℕ) (y : List ℕ × List ℕ) → new_name earlier left ≡ Ok y → length earlier < 1000
unfolding new_name
new_name_few earlier left y e =
    let a = inv (name left) (λ x. fresh (position (bytes_eq x.0) earlier) earlier x.0 x.1) y e in
    fresh_few (position (bytes_eq a.0.0) earlier) earlier a.0.0 a.0.1 y a.2

line_few : (names : List (List ℕ)) (shapes : List Shape) (left : List ℕ) (y : Fragment × List ℕ) → line names shapes left ≡ Ok y → length names < 1000
unfolding line
line_few names shapes left y e =
    let a = inv (new_name names left) (λ x. and_then (work names x.1) (λ z. and_then (after names z.1) (λ v. and_then (end_of_line v.1) (λ w. shaped shapes (record { name = x.0; work = z.0; after = v.0 }) w.1)))) y e in
    new_name_few names left a.0 a.1

fragment_few : (names : List (List ℕ)) (shapes : List Shape) (text : List ℕ) (y : Fragment) → fragment_of names shapes text ≡ Ok y → length names < 1000
unfolding fragment_of
fragment_few names shapes text y e =
    let a = inv (line names shapes text) (λ x. Ok x.0) y e in
    line_few names shapes text a.0 a.1

names_long : (fragments : List Fragment) → length (names_of fragments) ≡ length fragments
names_long [] = refl
names_long (f ∷ fragments) = omega (arith, names_long fragments)

with_line_few : (before : List Fragment) (text : List ℕ) (y : List Fragment) → with_line before text ≡ Ok y → length y ≤ 1000
with_line_few before text y e =
    let a = inv (fragment_of (names_of before) (shapes_of before) text) (λ f. Ok (before ++ f ∷ [])) y e in
    let few = fragment_few (names_of before) (shapes_of before) text a.0 a.1 in
    let long = length-append before (a.0 ∷ []) in
    let names = names_long before in
    let same : before ++ a.0 ∷ [] ≡ y = let h = a.2 in cc in
    omega (arith, few, long, names, ap length same)

on_line_ok : (number : ℕ) (r : Result (List Fragment) PlanKind) (others : List Fragment → Result (List Fragment) (ℕ × PlanKind)) (y : List Fragment)
    → on_line number r others ≡ Ok y → (x : List Fragment) × (r ≡ Ok x) × (others x ≡ Ok y)
on_line_ok number (Ok x) others y e = (x, refl, e)
on_line_ok number (Err k) others y e = absurd cc

from_by : (text : List ℕ) (lines : List (List ℕ)) (number : ℕ) (before : List Fragment) (y : List Fragment) (t : Bool) → is_skipped (without_return text) ≡ t
    → ((others : List Fragment) → length others ≤ 1000 → plan_from (suc number) others lines ≡ Ok y → length y ≤ 1000)
    → length before ≤ 1000 → plan_from number before (text ∷ lines) ≡ Ok y → length y ≤ 1000
from_by text lines number before y true t later few e = later before few (rw t at e)
from_by text lines number before y false t later few e =
    let e' : on_line number (with_line before (without_return text)) (λ fragments. plan_from (suc number) fragments lines) ≡ Ok y = rw t at e in
    let a = on_line_ok number (with_line before (without_return text)) (λ fragments. plan_from (suc number) fragments lines) y e' in
    later a.0 (with_line_few before (without_return text) a.0 a.1) a.2

from_few : (lines : List (List ℕ)) (number : ℕ) (before : List Fragment) (y : List Fragment) → length before ≤ 1000 → plan_from number before lines ≡ Ok y → length y ≤ 1000
from_few [] number before y few e = let same : before ≡ y = cc in omega (arith, few, ap length same)
from_few (text ∷ lines) number before y few e =
    from_by text lines number before y (is_skipped (without_return text)) refl (λ others ok z. from_few lines (suc number) others y ok z) few e

plan_by : (bytes : List ℕ) (y : List Fragment) (t : Bool) → nat_lt 1048576 (length bytes) ≡ t → plan_of bytes ≡ Ok y → length y ≤ 1000
unfolding plan_of
plan_by bytes y true t e = let e' = rw t at e in absurd cc
plan_by bytes y false t e = from_few (lines_of bytes) 1 [] y (omega arith) (rw t at e)

pub plans_are_short : PlansAreShort
plans_are_short plan read = plan_by read.0 plan (nat_lt 1048576 (length read.0)) refl read.1
