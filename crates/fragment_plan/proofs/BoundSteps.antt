-- The numbers of a plan that is read lie in bounds.
use Rattle.std.proofs.Common.{◌≡◌, ℕ, zero, suc, ◌<◌, ◌≤◌, List, [], ◌∷◌, ◌++◌, length, position, Bool, true, false, nat_lt, Option, Some, None, Result, Ok, Err, refl, sym, ap, subst, arith, length-append, ltb-true, codes, if◌then◌else◌, get_or, ◌⊎◌, inl, inr}
use Rattle.std.specs.Prelude.{All}
use Rattle.std.specs.Str.{bytes_eq}
use Rattle.std.proofs.lemmas.List.{get_or_at, get_or_append_left, length-map}
use Rattle.std.proofs.lemmas.List.Elements.{All-nil, All-push, All-weaker}
use Rattle.std.proofs.lemmas.List.Quantifiers.{position-Some}
use Rattle.plan_words.specs.declared.fault.PlanKind.{PlanKind}
use Rattle.plan_words.specs.declared.fault.PlanKind.TheVariants as kind
use Rattle.plan_words.specs.Reading.{Reads, and_then, gives, fails, word, keyword, option, name, file_name, name_list, end_of_line}
use Rattle.plan_words.specs.Lines.{lines_of, without_return, is_skipped}
use Rattle.fragment_plan.specs.declared.test.Test.{Test}
use Rattle.fragment_plan.specs.declared.fragment.Fragment.{Fragment}
use Rattle.fragment_plan.specs.declared.fragment.Work.{Work}
use Rattle.fragment_plan.specs.declared.fragment.Work.TheVariants as work_is
use Rattle.fragment_plan.specs.declared.fragment.FoldKind.{FoldKind}
use Rattle.fragment_plan.specs.declared.fragment.FoldKind.TheVariants as fold
use Rattle.fragment_plan.specs.declared.shape.Shape.{Shape}
use Rattle.plan_names.specs.Columns.{placed_at, placed, column, all_placed, column_list}
use Rattle.fragment_plan.specs.Tests.{check, one_test, more_tests, tests}
use Rattle.plan_names.specs.Sources.{known, all_known, sources, after, new_name}
use Rattle.fragment_plan.specs.Shapes.{is_whole, shapes_of}
use Rattle.fragment_plan.specs.Fragments.{rows_fold, column_fold, fold_by, scan_by, merge, work_by, work, shaped, line, names_of, fragment_of}
use Rattle.fragment_plan.specs.Plan.{with_line, on_line, plan_from, plan_of}
use Rattle.fragment_plan.specs.Bounds.{FoldInBounds, WorkInBounds, InBounds, AllInBounds}

pub inv : {A B : Type 0} (r : Result A PlanKind) (f : A → Result B PlanKind) (y : B) → and_then r f ≡ Ok y → (x : A) × (r ≡ Ok x) × (f x ≡ Ok y)
inv (Ok x) f y e = (x, refl, e)
inv (Err k) f y e = absurd cc

abbrev gave : {A : Type 0} → A → Result A PlanKind
gave a = Ok a

pub same_ok : {A : Type 0} (a b : A) → gave a ≡ Ok b → a ≡ b
same_ok a b e = cc

-- columns only join behind others, and stay few
pub record Grown {X : Type 0} (before : List X) (columns : List X) : Type 0 where
  pub few : length columns ≤ 16
  pub more : length before ≤ length columns

-- a place and the columns that it lies among
abbrev pub Placed : List (List ℕ) → ℕ × List (List ℕ) → Type 0
Placed before x = (x.0 < length x.1) × Grown before x.1

placed-new : (columns : List (List ℕ)) (found : List ℕ) (t : Bool) (y : ℕ × List (List ℕ)) → nat_lt (length columns) 16 ≡ t
    → placed_at None columns found ≡ Ok y → Placed columns y
placed-new columns found true y t e =
    let e' : gave (length columns, columns ++ found ∷ []) ≡ Ok y = rw t at e in
    let long = length-append columns (found ∷ []) in
    subst (Placed columns) (same_ok _ _ e')
    (omega (arith, long), record { few = omega (arith, long, ltb-true (length columns) 16 t); more = omega (arith, long) })
placed-new columns found false y t e = let e' = rw t at e in absurd cc

placed-by : (columns : List (List ℕ)) (found : List ℕ) (o : Option ℕ) (y : ℕ × List (List ℕ)) → position (bytes_eq found) columns ≡ o → length columns ≤ 16
    → placed_at o columns found ≡ Ok y → Placed columns y
placed-by columns found (Some n) y is few e =
    subst (Placed columns) (same_ok (n, columns) y e) ((position-Some (bytes_eq found) columns n [] is).0, record { few = few; more = omega arith })
placed-by columns found None y is few e = placed-new columns found (nat_lt (length columns) 16) y refl e

placed_bound : (columns : List (List ℕ)) (found : List ℕ) (y : ℕ × List (List ℕ)) → length columns ≤ 16 → placed columns found ≡ Ok y → Placed columns y
placed_bound columns found y few e = placed-by columns found (position (bytes_eq found) columns) y refl few e

column_bound : (columns : List (List ℕ)) (left : List ℕ) (y : (ℕ × List (List ℕ)) × List ℕ) → length columns ≤ 16 → column columns left ≡ Ok y → Placed columns y.0
unfolding column
column_bound columns left y few e =
    let a = inv (name left) (λ x. and_then (placed columns x.0) (λ z. Ok (z, x.1))) y e in
    let b = inv (placed columns a.0.0) (λ z. Ok (z, a.0.1)) y a.2 in
    subst (Placed columns) (ap (λ z. z.0) (same_ok (b.0, a.0.1) y b.2)) (placed_bound columns a.0.0 b.0 few b.1)

-- places that lie among the columns
abbrev pub AllBelow : ℕ → List ℕ → Type 0
AllBelow n places = All (λ place. place < n) places

below-more : (m n : ℕ) (places : List ℕ) → m ≤ n → AllBelow m places → AllBelow n places
below-more m n places h all = All-weaker (λ place. place < m) (λ place. place < n) (λ place p. omega (arith, h, p)) places all

below-none : (n : ℕ) → AllBelow n []
below-none n = All-nil (λ place. place < n)

abbrev pub AllPlaced : List (List ℕ) → List ℕ × List (List ℕ) → Type 0
AllPlaced before x = AllBelow (length x.1) x.0 × Grown before x.1

all_placed_bound : (columns : List (List ℕ)) (done : List ℕ) (list : List (List ℕ)) (y : List ℕ × List (List ℕ)) → length columns ≤ 16
    → AllBelow (length columns) done → all_placed columns done list ≡ Ok y → AllPlaced columns y
all_placed_bound columns done [] y few all e =
    subst (AllPlaced columns) (same_ok (done, columns) y e) (all, record { few = few; more = omega arith })
all_placed_bound columns done (found ∷ list) y few all e =
    let a = inv (placed columns found) (λ x. all_placed x.1 (done ++ x.0 ∷ []) list) y e in
    let p = placed_bound columns found a.0 few a.1 in
    let pushed = All-push (λ place. place < length a.0.1) done a.0.0 (below-more (length columns) (length a.0.1) done p.1.more all) p.0 in
    let later = all_placed_bound a.0.1 (done ++ a.0.0 ∷ []) list y p.1.few pushed a.2 in
    (later.0, record { few = later.1.few; more = omega (arith, p.1.more, later.1.more) })

if_ok : {A : Type 0} {P : Type 0} (t : Bool) (m n : Reads A) (left : List ℕ) (y : A × List ℕ) → (if t then m else n) left ≡ Ok y
    → (m left ≡ Ok y → P) → (n left ≡ Ok y → P) → P
if_ok true m n left y e first second = first e
if_ok false m n left y e first second = second e

column_list_bound : (left : List ℕ) (y : (List ℕ × List (List ℕ)) × List ℕ) → column_list left ≡ Ok y → AllPlaced [] y.0
unfolding column_list
column_list_bound left y e =
    let a = inv (name_list left) (λ x. and_then ((if nat_lt 64 (length x.0) then fails kind.TooMany else gives x.0) x.1) (λ z. and_then (all_placed [] [] x.0) (λ p. Ok (p, z.1)))) y e in
    let b = inv ((if nat_lt 64 (length a.0.0) then fails kind.TooMany else gives a.0.0) a.0.1) (λ z. and_then (all_placed [] [] a.0.0) (λ p. Ok (p, z.1))) y a.2 in
    let c = inv (all_placed [] [] a.0.0) (λ p. Ok (p, b.0.1)) y b.2 in
    subst (AllPlaced []) (ap (λ z. z.0) (same_ok (c.0, b.0.1) y c.2)) (all_placed_bound [] [] a.0.0 c.0 (omega arith) (below-none 0) c.1)

-- a fold's places lie among the columns, which are few
abbrev pub FoldPlaced : FoldKind × List (List ℕ) → Type 0
FoldPlaced x = FoldInBounds (length x.1) x.0 × (length x.1 ≤ 16)

rows_bound : (left : List ℕ) (y : (FoldKind × List (List ℕ)) × List ℕ) → rows_fold left ≡ Ok y → FoldPlaced y.0
rows_bound left y e =
    let a = inv (column_list left) (λ x. Ok ((fold.Rows x.0.0, x.0.1), x.1)) y e in
    let p = column_list_bound left a.0 a.1 in
    subst FoldPlaced (ap (λ z. z.0) (same_ok ((fold.Rows a.0.0.0, a.0.0.1), a.0.1) y a.2)) (p.0, p.1.few)

one_bound : (folded : ℕ → FoldKind) (left : List ℕ) (y : (FoldKind × List (List ℕ)) × List ℕ) → ((n place : ℕ) → place < n → FoldInBounds n (folded place))
    → column_fold folded left ≡ Ok y → FoldPlaced y.0
one_bound folded left y holds e =
    let a = inv (column [] left) (λ x. Ok ((folded x.0.0, x.0.1), x.1)) y e in
    let p = column_bound [] left a.0 (omega arith) a.1 in
    subst FoldPlaced (ap (λ z. z.0) (same_ok ((folded a.0.0.0, a.0.0.1), a.0.1) y a.2)) (holds (length a.0.0.1) a.0.0.0 p.0, p.1.few)

count_bound : (left : List ℕ) (y : (FoldKind × List (List ℕ)) × List ℕ) → gave ((fold.Count, []), left) ≡ Ok y → FoldPlaced y.0
count_bound left y e =
    let none : FoldPlaced (fold.Count, []) = (tt, omega arith) in
    subst FoldPlaced (ap (λ z. z.0) (same_ok ((fold.Count, []), left) y e)) none

group_bound : (found left : List ℕ) (y : (FoldKind × List (List ℕ)) × List ℕ)
    → (if bytes_eq found (codes "group") then column_fold (λ place. fold.Group place) else fails kind.BadWord) left ≡ Ok y → FoldPlaced y.0
group_bound found left y e =
    if_ok (bytes_eq found (codes "group")) (column_fold (λ place. fold.Group place)) (fails kind.BadWord) left y e
    (one_bound (λ place. fold.Group place) left y (λ n place h. h)) (λ z. absurd cc)

sum_bound : (found left : List ℕ) (y : (FoldKind × List (List ℕ)) × List ℕ)
    → (if bytes_eq found (codes "sum") then column_fold (λ place. fold.Sum place) else if bytes_eq found (codes "group") then column_fold (λ place. fold.Group place) else fails kind.BadWord) left ≡ Ok y → FoldPlaced y.0
sum_bound found left y e =
    if_ok (bytes_eq found (codes "sum")) (column_fold (λ place. fold.Sum place)) (if bytes_eq found (codes "group") then column_fold (λ place. fold.Group place) else fails kind.BadWord) left y e
    (one_bound (λ place. fold.Sum place) left y (λ n place h. h)) (group_bound found left y)

fold_bound : (found left : List ℕ) (y : (FoldKind × List (List ℕ)) × List ℕ) → fold_by found left ≡ Ok y → FoldPlaced y.0
fold_bound found left y e =
    if_ok (bytes_eq found (codes "rows")) rows_fold
    (if bytes_eq found (codes "count") then gives (fold.Count, []) else if bytes_eq found (codes "sum") then column_fold (λ place. fold.Sum place) else if bytes_eq found (codes "group") then column_fold (λ place. fold.Group place) else fails kind.BadWord)
    left y e (rows_bound left y)
    (λ z. if_ok (bytes_eq found (codes "count")) (gives (fold.Count, []))
    (if bytes_eq found (codes "sum") then column_fold (λ place. fold.Sum place) else if bytes_eq found (codes "group") then column_fold (λ place. fold.Group place) else fails kind.BadWord)
    left y z (count_bound left y) (sum_bound found left y))

-- tests whose columns lie among the columns
abbrev pub TestsBelow : ℕ → List Test → Type 0
TestsBelow n tests = All (λ test. test.column < n) tests

abbrev pub TestsPlaced : List (List ℕ) → List Test × List (List ℕ) → Type 0
TestsPlaced before x = TestsBelow (length x.1) x.0 × Grown before x.1

tests-more : (m n : ℕ) (list : List Test) → m ≤ n → TestsBelow m list → TestsBelow n list
tests-more m n list h all = All-weaker (λ (test : Test). test.column < m) (λ test. test.column < n) (λ test p. omega (arith, h, p)) list all

test_bound : (columns : List (List ℕ)) (left : List ℕ) (y : (Test × List (List ℕ)) × List ℕ) → length columns ≤ 16 → one_test columns left ≡ Ok y
    → (y.0.0.column < length y.0.1) × Grown columns y.0.1
unfolding one_test
test_bound columns left y few e =
    let a = inv (column columns left) (λ x. and_then (check x.1) (λ z. Ok ((record { column = x.0.0; check = z.0 }, x.0.1), z.1))) y e in
    let b = inv (check a.0.1) (λ z. Ok ((record { column = a.0.0.0; check = z.0 }, a.0.0.1), z.1)) y a.2 in
    let p = column_bound columns left a.0 few a.1 in
    subst (λ (z : (Test × List (List ℕ)) × List ℕ). (z.0.0.column < length z.0.1) × Grown columns z.0.1)
    (same_ok ((record { column = a.0.0.0; check = b.0.0 }, a.0.0.1), b.0.1) y b.2) p

more_bound : (room : ℕ) (columns : List (List ℕ)) (done : List Test) (left : List ℕ) (y : (List Test × List (List ℕ)) × List ℕ) → length columns ≤ 16
    → TestsBelow (length columns) done → more_tests room columns done left ≡ Ok y → TestsPlaced columns y.0
unfolding more_tests
more_bound zero columns done left y few all e =
    let a = inv (name left) (λ x. Err kind.TooMany) y e in absurd cc
more_bound (suc room) columns done left y few all e =
    let a = inv (one_test columns left) (λ x. and_then (option (codes "and") x.1) (λ z. (if z.0 then more_tests room x.0.1 (done ++ x.0.0 ∷ []) else gives (done ++ x.0.0 ∷ [], x.0.1)) z.1)) y e in
    let b = inv (option (codes "and") a.0.1) (λ z. (if z.0 then more_tests room a.0.0.1 (done ++ a.0.0.0 ∷ []) else gives (done ++ a.0.0.0 ∷ [], a.0.0.1)) z.1) y a.2 in
    let p = test_bound columns left a.0 few a.1 in
    let pushed = All-push (λ (test : Test). test.column < length a.0.0.1) done a.0.0.0 (tests-more (length columns) (length a.0.0.1) done p.1.more all) p.0 in
    if_ok b.0.0 (more_tests room a.0.0.1 (done ++ a.0.0.0 ∷ [])) (gives (done ++ a.0.0.0 ∷ [], a.0.0.1)) b.0.1 y b.2
    (λ z. let later = more_bound room a.0.0.1 (done ++ a.0.0.0 ∷ []) b.0.1 y p.1.few pushed z in
    (later.0, record { few = later.1.few; more = omega (arith, p.1.more, later.1.more) }))
    (λ z. subst (λ (w : (List Test × List (List ℕ)) × List ℕ). TestsPlaced columns w.0) (same_ok ((done ++ a.0.0.0 ∷ [], a.0.0.1), b.0.1) y z) (pushed, p.1))

tests_bound : (columns : List (List ℕ)) (left : List ℕ) (y : (List Test × List (List ℕ)) × List ℕ) → length columns ≤ 16 → tests columns left ≡ Ok y → TestsPlaced columns y.0
unfolding tests
tests_bound columns left y few e =
    let none : TestsBelow (length columns) [] = All-nil (λ (test : Test). test.column < length columns) in
    let a = inv (option (codes "where") left) (λ x. (if x.0 then more_tests 16 columns [] else gives ([], columns)) x.1) y e in
    if_ok a.0.0 (more_tests 16 columns []) (gives ([], columns)) a.0.1 y a.2 (more_bound 16 columns [] a.0.1 y few none)
    (λ z. subst (λ (w : (List Test × List (List ℕ)) × List ℕ). TestsPlaced columns w.0) (same_ok (([], columns), a.0.1) y z)
    (none, record { few = few; more = omega arith }))

fold-more : (m n : ℕ) (f : FoldKind) → m ≤ n → FoldInBounds m f → FoldInBounds n f
fold-more m n (fold.Rows places) h all = below-more m n places h all
fold-more m n fold.Count h all = tt
fold-more m n (fold.Sum place) h all = omega (arith, h, all)
fold-more m n (fold.Group place) h all = omega (arith, h, all)

scan_bound : (number : ℕ) (found left : List ℕ) (y : Work × List ℕ) → scan_by found left ≡ Ok y → WorkInBounds number y.0
scan_bound number found left y e =
    let a = inv (fold_by found left) (λ x. and_then (keyword (codes "from") x.1) (λ k. and_then (file_name k.1) (λ f. and_then (tests x.0.1 f.1)
    (λ t. Ok (work_is.Scan (record { file = f.0; columns = t.0.1; fold = x.0.0; tests = t.0.0 }), t.1))))) y e in
    let b = inv (keyword (codes "from") a.0.1) (λ k. and_then (file_name k.1) (λ f. and_then (tests a.0.0.1 f.1)
    (λ t. Ok (work_is.Scan (record { file = f.0; columns = t.0.1; fold = a.0.0.0; tests = t.0.0 }), t.1)))) y a.2 in
    let c = inv (file_name b.0.1) (λ f. and_then (tests a.0.0.1 f.1)
    (λ t. Ok (work_is.Scan (record { file = f.0; columns = t.0.1; fold = a.0.0.0; tests = t.0.0 }), t.1))) y b.2 in
    let d = inv (tests a.0.0.1 c.0.1) (λ t. Ok (work_is.Scan (record { file = c.0.0; columns = t.0.1; fold = a.0.0.0; tests = t.0.0 }), t.1)) y c.2 in
    let p = fold_bound found left a.0 a.1 in
    let q = tests_bound a.0.0.1 c.0.1 d.0 p.1 d.1 in
    subst (λ (w : Work × List ℕ). WorkInBounds number w.0)
    (same_ok (work_is.Scan (record { file = c.0.0; columns = d.0.0.1; fold = a.0.0.0; tests = d.0.0.0 }), d.0.1) y d.2)
    (record { few = q.1.few; fold_places = fold-more (length a.0.0.1) (length d.0.0.1) a.0.0.0 q.1.more p.0; test_places = q.0 })

known_bound : (earlier : List (List ℕ)) (found : List ℕ) (o : Option ℕ) (n : ℕ) → position (bytes_eq found) earlier ≡ o → known o ≡ Ok n → n < length earlier
known_bound earlier found (Some m) n is e = subst (λ (k : ℕ). k < length earlier) (same_ok m n e) (position-Some (bytes_eq found) earlier m [] is).0
known_bound earlier found None n is e = absurd cc

all_known_bound : (earlier : List (List ℕ)) (done : List ℕ) (list : List (List ℕ)) (y : List ℕ) → AllBelow (length earlier) done → all_known earlier done list ≡ Ok y
    → AllBelow (length earlier) y
all_known_bound earlier done [] y all e = subst (AllBelow (length earlier)) (same_ok done y e) all
all_known_bound earlier done (found ∷ list) y all e =
    let a = inv (known (position (bytes_eq found) earlier)) (λ n. all_known earlier (done ++ n ∷ []) list) y e in
    let p = known_bound earlier found (position (bytes_eq found) earlier) a.0 refl a.1 in
    all_known_bound earlier (done ++ a.0 ∷ []) list y (All-push (λ place. place < length earlier) done a.0 all p) a.2

sources_bound : (earlier : List (List ℕ)) (left : List ℕ) (y : List ℕ × List ℕ) → sources earlier left ≡ Ok y → AllBelow (length earlier) y.0
unfolding sources
sources_bound earlier left y e =
    let a = inv (name_list left) (λ x. and_then (and_then (all_known earlier [] x.0) (λ z. Ok (z, x.1))) (λ n. (if nat_lt 64 (length n.0) then fails kind.TooMany else gives n.0) n.1)) y e in
    let b = inv (and_then (all_known earlier [] a.0.0) (λ z. Ok (z, a.0.1))) (λ n. (if nat_lt 64 (length n.0) then fails kind.TooMany else gives n.0) n.1) y a.2 in
    let c = inv (all_known earlier [] a.0.0) (λ z. Ok (z, a.0.1)) b.0 b.1 in
    let all = all_known_bound earlier [] a.0.0 c.0 (below-none (length earlier)) c.1 in
    let found : AllBelow (length earlier) b.0.0 = subst (λ (w : List ℕ × List ℕ). AllBelow (length earlier) w.0) (same_ok (c.0, a.0.1) b.0 c.2) all in
    if_ok (nat_lt 64 (length b.0.0)) (fails kind.TooMany) (gives b.0.0) b.0.1 y b.2 (λ z. absurd cc)
    (λ z. subst (λ (w : List ℕ × List ℕ). AllBelow (length earlier) w.0) (same_ok (b.0.0, b.0.1) y z) found)

after_bound : (earlier : List (List ℕ)) (left : List ℕ) (y : List ℕ × List ℕ) → after earlier left ≡ Ok y → AllBelow (length earlier) y.0
unfolding after
after_bound earlier left y e =
    let a = inv (option (codes "after") left) (λ x. (if x.0 then sources earlier else gives []) x.1) y e in
    if_ok a.0.0 (sources earlier) (gives []) a.0.1 y a.2 (sources_bound earlier a.0.1 y)
    (λ z. subst (λ (w : List ℕ × List ℕ). AllBelow (length earlier) w.0) (same_ok ([], a.0.1) y z) (below-none (length earlier)))

merge_bound : (earlier : List (List ℕ)) (left : List ℕ) (y : Work × List ℕ) → merge earlier left ≡ Ok y → WorkInBounds (length earlier) y.0
merge_bound earlier left y e =
    let a = inv (sources earlier left) (λ x. Ok (work_is.Merge x.0, x.1)) y e in
    subst (λ (w : Work × List ℕ). WorkInBounds (length earlier) w.0) (same_ok (work_is.Merge a.0.0, a.0.1) y a.2) (sources_bound earlier left a.0 a.1)

work_bound : (earlier : List (List ℕ)) (left : List ℕ) (y : Work × List ℕ) → work earlier left ≡ Ok y → WorkInBounds (length earlier) y.0
unfolding work
work_bound earlier left y e =
    let a = inv (word left) (λ x. work_by earlier x.0 x.1) y e in
    if_ok (bytes_eq a.0.0 (codes "merge")) (merge earlier) (scan_by a.0.0) a.0.1 y a.2 (merge_bound earlier a.0.1 y) (scan_bound (length earlier) a.0.0 a.0.1 y)

line_bound : (names : List (List ℕ)) (shapes : List Shape) (left : List ℕ) (y : Fragment × List ℕ) → line names shapes left ≡ Ok y → InBounds (length names) y.0
unfolding line
line_bound names shapes left y e =
    let a = inv (new_name names left) (λ f. and_then (work names f.1) (λ d. and_then (after names d.1) (λ b. and_then (end_of_line b.1)
    (λ o. shaped shapes (record { name = f.0; work = d.0; after = b.0 }) o.1)))) y e in
    let b = inv (work names a.0.1) (λ d. and_then (after names d.1) (λ b. and_then (end_of_line b.1)
    (λ o. shaped shapes (record { name = a.0.0; work = d.0; after = b.0 }) o.1))) y a.2 in
    let c = inv (after names b.0.1) (λ z. and_then (end_of_line z.1) (λ o. shaped shapes (record { name = a.0.0; work = b.0.0; after = z.0 }) o.1)) y b.2 in
    let d = inv (end_of_line c.0.1) (λ o. shaped shapes (record { name = a.0.0; work = b.0.0; after = c.0.0 }) o.1) y c.2 in
    let made : Fragment = record { name = a.0.0; work = b.0.0; after = c.0.0 } in
    if_ok (is_whole shapes b.0.0) (gives made) (fails kind.ShapeDiffers) d.0.1 y d.2
    (λ z. subst (λ (w : Fragment × List ℕ). InBounds (length names) w.0) (same_ok (made, d.0.1) y z)
    (record { work_is = work_bound names a.0.1 b.0 b.1; after_is = after_bound names b.0.1 c.0 c.1 }))
    (λ z. absurd cc)

fragment_bound : (names : List (List ℕ)) (shapes : List Shape) (text : List ℕ) (y : Fragment) → fragment_of names shapes text ≡ Ok y → InBounds (length names) y
unfolding fragment_of
fragment_bound names shapes text y e =
    let a = inv (line names shapes text) (λ x. Ok x.0) y e in
    subst (InBounds (length names)) (same_ok a.0.0 y a.2) (line_bound names shapes text a.0 a.1)

pushed-by : (before : List Fragment) (fragment : Fragment) (number : ℕ) (d : Fragment) → AllInBounds before → InBounds (length before) fragment
    → number < length (before ++ fragment ∷ []) → (number < length before) ⊎ (number ≡ length before) → InBounds number (get_or (before ++ fragment ∷ []) number d)
pushed-by before fragment number d all one h (inl lt) = rw (get_or_append_left before (fragment ∷ []) d number lt) (all number d lt)
pushed-by before fragment number d all one h (inr is) =
    rw (get_or_at before fragment [] d number (sym is)) (subst (λ (n : ℕ). InBounds n fragment) (sym is) one)

pushed : (before : List Fragment) (fragment : Fragment) → AllInBounds before → InBounds (length before) fragment → AllInBounds (before ++ fragment ∷ [])
pushed before fragment all one number d h =
    let long = length-append before (fragment ∷ []) in
    let either : (number < length before) ⊎ (number ≡ length before) = grind (arith, long) in
    pushed-by before fragment number d all one h either

with_line_bound : (before : List Fragment) (text : List ℕ) (y : List Fragment) → AllInBounds before → with_line before text ≡ Ok y → AllInBounds y
with_line_bound before text y all e =
    let a = inv (fragment_of (names_of before) (shapes_of before) text) (λ f. Ok (before ++ f ∷ [])) y e in
    let one = fragment_bound (names_of before) (shapes_of before) text a.0 a.1 in
    subst AllInBounds (same_ok (before ++ a.0 ∷ []) y a.2)
    (pushed before a.0 all (subst (λ (n : ℕ). InBounds n a.0) (length-map before (λ f. f.name)) one))

on_line_ok : (number : ℕ) (r : Result (List Fragment) PlanKind) (others : List Fragment → Result (List Fragment) (ℕ × PlanKind)) (y : List Fragment)
    → on_line number r others ≡ Ok y → (x : List Fragment) × (r ≡ Ok x) × (others x ≡ Ok y)
on_line_ok number (Ok x) others y e = (x, refl, e)
on_line_ok number (Err k) others y e = absurd cc

from_by : (text : List ℕ) (lines : List (List ℕ)) (number : ℕ) (before : List Fragment) (y : List Fragment) (t : Bool) → is_skipped (without_return text) ≡ t
    → ((others : List Fragment) → AllInBounds others → plan_from (suc number) others lines ≡ Ok y → AllInBounds y)
    → AllInBounds before → plan_from number before (text ∷ lines) ≡ Ok y → AllInBounds y
from_by text lines number before y true t later all e = later before all (rw t at e)
from_by text lines number before y false t later all e =
    let e' : on_line number (with_line before (without_return text)) (λ fragments. plan_from (suc number) fragments lines) ≡ Ok y = rw t at e in
    let a = on_line_ok number (with_line before (without_return text)) (λ fragments. plan_from (suc number) fragments lines) y e' in
    later a.0 (with_line_bound before (without_return text) a.0 all a.1) a.2

from_ok : (lines : List (List ℕ)) (number : ℕ) (before : List Fragment) (y : List Fragment) → AllInBounds before → plan_from number before lines ≡ Ok y → AllInBounds y
from_ok [] number before y all e = subst AllInBounds (let h : before ≡ y = cc in h) all
from_ok (text ∷ lines) number before y all e =
    from_by text lines number before y (is_skipped (without_return text)) refl (λ others ok z. from_ok lines (suc number) others y ok z) all e

whole-by : (bytes : List ℕ) (y : List Fragment) (t : Bool) → nat_lt 1048576 (length bytes) ≡ t → plan_of bytes ≡ Ok y → AllInBounds y
unfolding plan_of
whole-by bytes y true t e = let e' = rw t at e in absurd cc
whole-by bytes y false t e = from_ok (lines_of bytes) 1 [] y (λ number d h. absurd (omega (arith, h))) (rw t at e)

-- a plan that was read is in bounds
pub plan_bound : (bytes : List ℕ) (y : List Fragment) → plan_of bytes ≡ Ok y → AllInBounds y
plan_bound bytes y e = whole-by bytes y (nat_lt 1048576 (length bytes)) refl e
