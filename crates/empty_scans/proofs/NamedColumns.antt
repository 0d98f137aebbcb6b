-- A plan's scans that keep rows name a column: a list of names has a name.
use Rattle.std.proofs.Common.{◌≡◌, ℕ, suc, ◌+◌, ◌<◌, List, [], ◌∷◌, ◌++◌, length, Bool, true, false, nat_lt, if◌then◌else◌, eqb, Result, Ok, Err, refl, ap, subst, arith, length-append, codes}
use Rattle.std.specs.Prelude.{All}
use Rattle.std.specs.Str.{bytes_eq}
use Rattle.std.proofs.lemmas.List.Elements.{All-nil, All-push}
use Rattle.plan_words.specs.declared.fault.PlanKind.{PlanKind}
use Rattle.plan_words.specs.declared.fault.PlanKind.TheVariants as kind
use Rattle.plan_words.specs.Pieces.{into_first, pieces_of}
use Rattle.plan_words.specs.Names.{all_names}
use Rattle.plan_words.specs.Reading.{Reads, and_then, gives, fails, word, keyword, file_name, name_list, end_of_line}
use Rattle.plan_words.specs.Lines.{lines_of, without_return, is_skipped}
use Rattle.fragment_plan.specs.declared.fragment.Fragment.{Fragment}
use Rattle.fragment_plan.specs.declared.fragment.Scan.{Scan}
use Rattle.fragment_plan.specs.declared.fragment.Work.{Work}
use Rattle.fragment_plan.specs.declared.fragment.Work.TheVariants as work_is
use Rattle.fragment_plan.specs.declared.fragment.FoldKind.{FoldKind}
use Rattle.fragment_plan.specs.declared.fragment.FoldKind.TheVariants as fold
use Rattle.fragment_plan.specs.declared.shape.Shape.{Shape}
use Rattle.plan_names.specs.Columns.{placed, column, all_placed, column_list}
use Rattle.fragment_plan.specs.Tests.{tests}
use Rattle.plan_names.specs.Sources.{sources, after, new_name}
use Rattle.fragment_plan.specs.Shapes.{is_whole, shapes_of}
use Rattle.fragment_plan.specs.Fragments.{rows_fold, column_fold, fold_by, scan_by, merge, work_by, work, shaped, line, names_of, fragment_of}
use Rattle.fragment_plan.specs.Plan.{with_line, on_line, plan_from, plan_of}
use Rattle.empty_scans.specs.Laws.{HasColumns}

-- ---- readings one after the other

inv : {A B : Type 0} (r : Result A PlanKind) (f : A → Result B PlanKind) (y : B) → and_then r f ≡ Ok y → (x : A) × (r ≡ Ok x) × (f x ≡ Ok y)
inv (Ok x) f y e = (x, refl, e)
inv (Err k) f y e = absurd cc

abbrev gave : {A : Type 0} → A → Result A PlanKind
gave a = Ok a

same_ok : {A : Type 0} (a b : A) → gave a ≡ Ok b → a ≡ b
same_ok a b e = cc

if_ok : {A : Type 0} {P : Type 0} (t : Bool) (m n : Reads A) (left : List ℕ) (y : A × List ℕ) → (if t then m else n) left ≡ Ok y
    → (m left ≡ Ok y → P) → (n left ≡ Ok y → P) → P
if_ok true m n left y e first second = first e
if_ok false m n left y e first second = second e

-- ---- a list of names

into_some : (b : ℕ) (pieces : List (List ℕ)) → 0 < length (into_first b pieces)
into_some b [] = omega arith
into_some b (piece ∷ pieces) = omega arith

piece_by : (t : Bool) (pieces : List (List ℕ)) (b : ℕ) → 0 < length (if t then ([] ∷ pieces) else into_first b pieces)
piece_by true pieces b = omega arith
piece_by false pieces b = into_some b pieces

some_piece : (separator : ℕ) (bytes : List ℕ) → 0 < length (pieces_of separator bytes)
some_piece separator [] = omega arith
some_piece separator (b ∷ bytes) = piece_by (eqb b separator) (pieces_of separator bytes) b

some_names : (left : List ℕ) (y : List (List ℕ) × List ℕ) → name_list left ≡ Ok y → 0 < length y.0
unfolding name_list
some_names left y e =
    let a = inv (word left) (λ x. (if all_names (pieces_of 44 x.0) then gives (pieces_of 44 x.0) else fails kind.BadName) x.1) y e in
    if_ok (all_names (pieces_of 44 a.0.0)) (gives (pieces_of 44 a.0.0)) (fails kind.BadName) a.0.1 y a.2
    (λ z. subst (λ (w : List (List ℕ) × List ℕ). 0 < length w.0) (same_ok (pieces_of 44 a.0.0, a.0.1) y z) (some_piece 44 a.0.0))
    (λ z. absurd cc)

-- ---- places of columns: one for each name

all_placed_len : (columns : List (List ℕ)) (done : List ℕ) (list : List (List ℕ)) (y : List ℕ × List (List ℕ)) → all_placed columns done list ≡ Ok y
    → length y.0 ≡ length done + length list
all_placed_len columns done [] y e =
    let same = ap (λ (w : List ℕ × List (List ℕ)). length w.0) (same_ok (done, columns) y e) in
    omega (arith, same)
all_placed_len columns done (found ∷ list) y e =
    let a = inv (placed columns found) (λ x. all_placed x.1 (done ++ x.0 ∷ []) list) y e in
    omega (arith, all_placed_len a.0.1 (done ++ a.0.0 ∷ []) list y a.2, length-append done (a.0.0 ∷ []))

some_places : (left : List ℕ) (y : (List ℕ × List (List ℕ)) × List ℕ) → column_list left ≡ Ok y → 0 < length y.0.0
unfolding column_list
some_places left y e =
    let a = inv (name_list left) (λ x. and_then ((if nat_lt 64 (length x.0) then fails kind.TooMany else gives x.0) x.1) (λ z. and_then (all_placed [] [] x.0) (λ p. Ok (p, z.1)))) y e in
    let b = inv ((if nat_lt 64 (length a.0.0) then fails kind.TooMany else gives a.0.0) a.0.1) (λ z. and_then (all_placed [] [] a.0.0) (λ p. Ok (p, z.1))) y a.2 in
    let c = inv (all_placed [] [] a.0.0) (λ p. Ok (p, b.0.1)) y b.2 in
    let none : List ℕ = [] in
    subst (λ (w : (List ℕ × List (List ℕ)) × List ℕ). 0 < length w.0.0) (same_ok (c.0, b.0.1) y c.2)
    (omega (arith, all_placed_len [] none a.0.0 c.0 c.1, some_names left a.0 a.1))

-- ---- folds

abbrev FoldHas : (FoldKind × List (List ℕ)) × List ℕ → Type 0
FoldHas y = HasColumns y.0.0

rows_have : (left : List ℕ) (y : (FoldKind × List (List ℕ)) × List ℕ) → rows_fold left ≡ Ok y → FoldHas y
rows_have left y e =
    let a = inv (column_list left) (λ x. Ok ((fold.Rows x.0.0, x.0.1), x.1)) y e in
    subst FoldHas (same_ok ((fold.Rows a.0.0.0, a.0.0.1), a.0.1) y a.2) (some_places left a.0 a.1)

one_has : (folded : ℕ → FoldKind) (left : List ℕ) (y : (FoldKind × List (List ℕ)) × List ℕ) → ((place : ℕ) → HasColumns (folded place))
    → column_fold folded left ≡ Ok y → FoldHas y
one_has folded left y holds e =
    let a = inv (column [] left) (λ x. Ok ((folded x.0.0, x.0.1), x.1)) y e in
    subst FoldHas (same_ok ((folded a.0.0.0, a.0.0.1), a.0.1) y a.2) (holds a.0.0.0)

count_has : (left : List ℕ) (y : (FoldKind × List (List ℕ)) × List ℕ) → gave ((fold.Count, []), left) ≡ Ok y → FoldHas y
count_has left y e = subst FoldHas (same_ok ((fold.Count, []), left) y e) tt

group_has : (found left : List ℕ) (y : (FoldKind × List (List ℕ)) × List ℕ)
    → (if bytes_eq found (codes "group") then column_fold (λ place. fold.Group place) else fails kind.BadWord) left ≡ Ok y → FoldHas y
group_has found left y e =
    if_ok (bytes_eq found (codes "group")) (column_fold (λ place. fold.Group place)) (fails kind.BadWord) left y e
    (one_has (λ place. fold.Group place) left y (λ place. tt)) (λ z. absurd cc)

sum_has : (found left : List ℕ) (y : (FoldKind × List (List ℕ)) × List ℕ)
    → (if bytes_eq found (codes "sum") then column_fold (λ place. fold.Sum place) else if bytes_eq found (codes "group") then column_fold (λ place. fold.Group place) else fails kind.BadWord) left ≡ Ok y → FoldHas y
sum_has found left y e =
    if_ok (bytes_eq found (codes "sum")) (column_fold (λ place. fold.Sum place)) (if bytes_eq found (codes "group") then column_fold (λ place. fold.Group place) else fails kind.BadWord) left y e
    (one_has (λ place. fold.Sum place) left y (λ place. tt)) (group_has found left y)

fold_has : (found left : List ℕ) (y : (FoldKind × List (List ℕ)) × List ℕ) → fold_by found left ≡ Ok y → FoldHas y
fold_has found left y e =
    if_ok (bytes_eq found (codes "rows")) rows_fold
    (if bytes_eq found (codes "count") then gives (fold.Count, []) else if bytes_eq found (codes "sum") then column_fold (λ place. fold.Sum place) else if bytes_eq found (codes "group") then column_fold (λ place. fold.Group place) else fails kind.BadWord)
    left y e (rows_have left y)
    (λ z. if_ok (bytes_eq found (codes "count")) (gives (fold.Count, []))
    (if bytes_eq found (codes "sum") then column_fold (λ place. fold.Sum place) else if bytes_eq found (codes "group") then column_fold (λ place. fold.Group place) else fails kind.BadWord)
    left y z (count_has left y) (sum_has found left y))

-- ---- lines

-- a scan's fold has what it keeps
abbrev WorkHas : Work → Type 0
WorkHas (work_is.Scan scan) = HasColumns scan.fold
WorkHas (work_is.Merge numbers) = Unit {0}

scan_has : (found left : List ℕ) (y : Work × List ℕ) → scan_by found left ≡ Ok y → WorkHas y.0
scan_has found left y e =
    let a = inv (fold_by found left) (λ x. and_then (keyword (codes "from") x.1) (λ k. and_then (file_name k.1) (λ f. and_then (tests x.0.1 f.1)
    (λ t. Ok (work_is.Scan (record { file = f.0; columns = t.0.1; fold = x.0.0; tests = t.0.0 }), t.1))))) y e in
    let b = inv (keyword (codes "from") a.0.1) (λ k. and_then (file_name k.1) (λ f. and_then (tests a.0.0.1 f.1)
    (λ t. Ok (work_is.Scan (record { file = f.0; columns = t.0.1; fold = a.0.0.0; tests = t.0.0 }), t.1)))) y a.2 in
    let c = inv (file_name b.0.1) (λ f. and_then (tests a.0.0.1 f.1)
    (λ t. Ok (work_is.Scan (record { file = f.0; columns = t.0.1; fold = a.0.0.0; tests = t.0.0 }), t.1))) y b.2 in
    let d = inv (tests a.0.0.1 c.0.1) (λ t. Ok (work_is.Scan (record { file = c.0.0; columns = t.0.1; fold = a.0.0.0; tests = t.0.0 }), t.1)) y c.2 in
    subst (λ (w : Work × List ℕ). WorkHas w.0)
    (same_ok (work_is.Scan (record { file = c.0.0; columns = d.0.0.1; fold = a.0.0.0; tests = d.0.0.0 }), d.0.1) y d.2) (fold_has found left a.0 a.1)

merge_has : (earlier : List (List ℕ)) (left : List ℕ) (y : Work × List ℕ) → merge earlier left ≡ Ok y → WorkHas y.0
merge_has earlier left y e =
    let a = inv (sources earlier left) (λ x. Ok (work_is.Merge x.0, x.1)) y e in
    subst (λ (w : Work × List ℕ). WorkHas w.0) (same_ok (work_is.Merge a.0.0, a.0.1) y a.2) tt

work_has : (earlier : List (List ℕ)) (left : List ℕ) (y : Work × List ℕ) → work earlier left ≡ Ok y → WorkHas y.0
unfolding work
work_has earlier left y e =
    let a = inv (word left) (λ x. work_by earlier x.0 x.1) y e in
    if_ok (bytes_eq a.0.0 (codes "merge")) (merge earlier) (scan_by a.0.0) a.0.1 y a.2 (merge_has earlier a.0.1 y) (scan_has a.0.0 a.0.1 y)

line_has : (names : List (List ℕ)) (shapes : List Shape) (left : List ℕ) (y : Fragment × List ℕ) → line names shapes left ≡ Ok y → WorkHas y.0.work
unfolding line
line_has names shapes left y e =
    let a = inv (new_name names left) (λ f. and_then (work names f.1) (λ d. and_then (after names d.1) (λ b. and_then (end_of_line b.1)
    (λ o. shaped shapes (record { name = f.0; work = d.0; after = b.0 }) o.1)))) y e in
    let b = inv (work names a.0.1) (λ d. and_then (after names d.1) (λ b. and_then (end_of_line b.1)
    (λ o. shaped shapes (record { name = a.0.0; work = d.0; after = b.0 }) o.1))) y a.2 in
    let c = inv (after names b.0.1) (λ z. and_then (end_of_line z.1) (λ o. shaped shapes (record { name = a.0.0; work = b.0.0; after = z.0 }) o.1)) y b.2 in
    let d = inv (end_of_line c.0.1) (λ o. shaped shapes (record { name = a.0.0; work = b.0.0; after = c.0.0 }) o.1) y c.2 in
    let made : Fragment = record { name = a.0.0; work = b.0.0; after = c.0.0 } in
    if_ok (is_whole shapes b.0.0) (gives made) (fails kind.ShapeDiffers) d.0.1 y d.2
    (λ z. subst (λ (w : Fragment × List ℕ). WorkHas w.0.work) (same_ok (made, d.0.1) y z) (work_has names a.0.1 b.0 b.1))
    (λ z. absurd cc)

fragment_has : (names : List (List ℕ)) (shapes : List Shape) (text : List ℕ) (y : Fragment) → fragment_of names shapes text ≡ Ok y → WorkHas y.work
unfolding fragment_of
fragment_has names shapes text y e =
    let a = inv (line names shapes text) (λ x. Ok x.0) y e in
    subst (λ (f : Fragment). WorkHas f.work) (same_ok a.0.0 y a.2) (line_has names shapes text a.0 a.1)

-- ---- plans

abbrev FragmentHas : Fragment → Type 0
FragmentHas f = WorkHas f.work

with_line_has : (before : List Fragment) (text : List ℕ) (y : List Fragment) → All FragmentHas before → with_line before text ≡ Ok y → All FragmentHas y
with_line_has before text y all e =
    let a = inv (fragment_of (names_of before) (shapes_of before) text) (λ f. Ok (before ++ f ∷ [])) y e in
    subst (All FragmentHas) (same_ok (before ++ a.0 ∷ []) y a.2)
    (All-push FragmentHas before a.0 all (fragment_has (names_of before) (shapes_of before) text a.0 a.1))

on_line_ok : (number : ℕ) (r : Result (List Fragment) PlanKind) (others : List Fragment → Result (List Fragment) (ℕ × PlanKind)) (y : List Fragment)
    → on_line number r others ≡ Ok y → (x : List Fragment) × (r ≡ Ok x) × (others x ≡ Ok y)
on_line_ok number (Ok x) others y e = (x, refl, e)
on_line_ok number (Err k) others y e = absurd cc

from_by : (text : List ℕ) (lines : List (List ℕ)) (number : ℕ) (before : List Fragment) (y : List Fragment) (t : Bool) → is_skipped (without_return text) ≡ t
    → ((others : List Fragment) → All FragmentHas others → plan_from (suc number) others lines ≡ Ok y → All FragmentHas y)
    → All FragmentHas before → plan_from number before (text ∷ lines) ≡ Ok y → All FragmentHas y
from_by text lines number before y true t later all e = later before all (rw t at e)
from_by text lines number before y false t later all e =
    let e' : on_line number (with_line before (without_return text)) (λ fragments. plan_from (suc number) fragments lines) ≡ Ok y = rw t at e in
    let a = on_line_ok number (with_line before (without_return text)) (λ fragments. plan_from (suc number) fragments lines) y e' in
    later a.0 (with_line_has before (without_return text) a.0 all a.1) a.2

from_has : (lines : List (List ℕ)) (number : ℕ) (before : List Fragment) (y : List Fragment) → All FragmentHas before → plan_from number before lines ≡ Ok y → All FragmentHas y
from_has [] number before y all e = subst (All FragmentHas) (let h : before ≡ y = cc in h) all
from_has (text ∷ lines) number before y all e =
    from_by text lines number before y (is_skipped (without_return text)) refl (λ others ok z. from_has lines (suc number) others y ok z) all e

whole_by : (bytes : List ℕ) (y : List Fragment) (t : Bool) → nat_lt 1048576 (length bytes) ≡ t → plan_of bytes ≡ Ok y → All FragmentHas y
unfolding plan_of
whole_by bytes y true t e = let e' = rw t at e in absurd cc
whole_by bytes y false t e = from_has (lines_of bytes) 1 [] y (All-nil FragmentHas) (rw t at e)

-- each fragment of a plan that was read keeps a column, where it keeps rows
pub plan_has : (bytes : List ℕ) (y : List Fragment) → plan_of bytes ≡ Ok y → All (λ (f : Fragment). WorkHas f.work) y
plan_has bytes y e = whole_by bytes y (nat_lt 1048576 (length bytes)) refl e

pub scan_keeps : (w : Work) (scan : Scan) → w ≡ work_is.Scan scan → WorkHas w → HasColumns scan.fold
scan_keeps w scan is has = subst WorkHas is has
