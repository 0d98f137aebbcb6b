-- A line is read as it is written.
use Rattle.std.proofs.Common.{◌≡◌, ℕ, suc, ◌<◌, ◌≤◌, List, [], ◌∷◌, ◌++◌, length, take, map, position, true, false, Some, None, Ok, refl, ap, arith, lt-ltb, le-ltb, codes}
use Rattle.std.specs.List.{list_all}
use Rattle.std.specs.Str.{bytes_eq}
use Rattle.std.proofs.lemmas.List.{take_all}
use Rattle.plan_words.specs.Names.{is_name}
use Rattle.plan_words.specs.Reading.{word}
use Rattle.fragment_plan.specs.declared.fragment.Fragment.{Fragment}
use Rattle.fragment_plan.specs.declared.fragment.Scan.{Scan}
use Rattle.fragment_plan.specs.declared.fragment.Work.{Work}
use Rattle.fragment_plan.specs.declared.fragment.Work.TheVariants as work_is
use Rattle.fragment_plan.specs.declared.fragment.FoldKind.{FoldKind}
use Rattle.fragment_plan.specs.declared.fragment.FoldKind.TheVariants as fold
use Rattle.fragment_plan.specs.declared.shape.Shape.{Shape}
use Rattle.plan_names.specs.Columns.{column_list}
use Rattle.fragment_plan.specs.Tests.{tests}
use Rattle.plan_names.specs.Sources.{sources, after, new_name}
use Rattle.fragment_plan.specs.Fragments.{fold_by, scan_by, work, line, fragment_of}
use Rattle.plan_text.specs.Written.{spaced, name_at, list_text, tests_text, fold_text, work_text, after_text, line_text}
use Rattle.plan_text.specs.Plain.{IsDistinct, named, IsFold, places_of, IsScan, AreEarlier, IsWork, IsPlain}
use Rattle.plan_text.proofs.WordsRead.{Ends, word_spaced, option_is, option_other, option_end, keyword_is, name_first, file_spaced, end_is}
use Rattle.plan_text.proofs.ListsRead.{list_spaced}
use Rattle.plan_text.proofs.PlacesRead.{Cols, named_step, named_grows, column_is, all_placed_is, places_names, all_known_is, numbers_names}
use Rattle.plan_text.proofs.TestsRead.{Follows, tests_is, tests_end}

length-map : {X Y : Type 0} (f : X → Y) (xs : List X) → length (map f xs) ≡ length xs
length-map f [] = refl
length-map f (x ∷ xs) = ap suc (length-map f xs)

-- a fold's first word, and what is read behind it
record Folded (columns : List (List ℕ)) (kind : FoldKind) (m : ℕ) (rest : List ℕ) : Type 0 where
  first : List ℕ
  left : List ℕ
  reads : word (fold_text columns kind rest) ≡ Ok (first, left)
  no_merge : bytes_eq first (codes "merge") ≡ false
  goes : fold_by first left ≡ Ok ((kind, take m columns), rest)

column_list_is : (columns : List (List ℕ)) (places : List ℕ) (m : ℕ) (rest : List ℕ) → Cols columns → m ≤ length columns → 1 ≤ length places → length places ≤ 64
    → named 0 places ≡ Some m → Ends rest → column_list (spaced (list_text columns places) rest) ≡ Ok ((places, take m columns), rest)
unfolding column_list
column_list_is columns places m rest cols le some few e ends =
    let long = length-map (name_at columns) places in
    rw (list_spaced (map (name_at columns) places) rest (omega (arith, long, some)) (places_names columns 0 places m cols le e) ends)
    (rw (le-ltb 64 (length (map (name_at columns) places)) (omega (arith, long, few)))
    (rw (all_placed_is columns 0 [] places m cols le e) refl))

fold_is : (columns : List (List ℕ)) (kind : FoldKind) (m : ℕ) (rest : List ℕ) → Cols columns → m ≤ length columns → IsFold kind → named 0 (places_of kind) ≡ Some m
    → Ends rest → Folded columns kind m rest
fold_is columns (fold.Rows places) m rest cols le is e ends = record {
  first = codes "rows";
  left = spaced (list_text columns places) rest;
  reads = word_spaced (codes "rows") (spaced (list_text columns places) rest) (record { some = refl; solid = refl }) refl;
  no_merge = refl;
  goes = rw (column_list_is columns places m rest cols le is.0 is.1 e ends) refl;
}
fold_is columns fold.Count m rest cols le is e ends =
    let none : 0 ≡ m = cc in
    record {
      first = codes "count";
      left = rest;
      reads = word_spaced (codes "count") rest (record { some = refl; solid = refl }) ends;
      no_merge = refl;
      goes = ap (λ (k : ℕ). Ok ((fold.Count, take k columns), rest)) none;
    }
fold_is columns (fold.Sum place) m rest cols le is e ends =
    let s = named_step 0 place [] m e in
    let same : s.next ≡ m = let z = s.later in cc in
    record {
      first = codes "sum";
      left = spaced (name_at columns place) rest;
      reads = word_spaced (codes "sum") (spaced (name_at columns place) rest) (record { some = refl; solid = refl }) refl;
      no_merge = refl;
      goes = rw (column_is columns 0 place [] m rest cols le s ends) (ap (λ (k : ℕ). Ok ((fold.Sum place, take k columns), rest)) same);
    }
fold_is columns (fold.Group place) m rest cols le is e ends =
    let s = named_step 0 place [] m e in
    let same : s.next ≡ m = let z = s.later in cc in
    record {
      first = codes "group";
      left = spaced (name_at columns place) rest;
      reads = word_spaced (codes "group") (spaced (name_at columns place) rest) (record { some = refl; solid = refl }) refl;
      no_merge = refl;
      goes = rw (column_is columns 0 place [] m rest cols le s ends) (ap (λ (k : ℕ). Ok ((fold.Group place, take k columns), rest)) same);
    }

scan_is : (scan : Scan) (first left rest : List ℕ) (behind : ℕ) → IsScan scan → Cols scan.columns
    → fold_by first left ≡ Ok ((scan.fold, take behind scan.columns), spaced (codes "from") (spaced scan.file (tests_text scan.columns scan.tests rest)))
    → tests (take behind scan.columns) (tests_text scan.columns scan.tests rest) ≡ Ok ((scan.tests, take (length scan.columns) scan.columns), rest)
    → Ends (tests_text scan.columns scan.tests rest) → scan_by first left ≡ Ok (work_is.Scan scan, rest)
scan_is scan first left rest behind is cols folded tested e =
    rw folded (rw (keyword_is (codes "from") (spaced scan.file (tests_text scan.columns scan.tests rest)) (record { some = refl; solid = refl }) refl refl)
    (rw (file_spaced scan.file (tests_text scan.columns scan.tests rest) is.file_is e)
    (rw tested (ap (λ (cs : List (List ℕ)). Ok (work_is.Scan (record { file = scan.file; columns = cs; fold = scan.fold; tests = scan.tests }), rest))
    (take_all (length scan.columns) scan.columns (omega arith))))))

sources_is : (names : List (List ℕ)) (numbers rest : List ℕ) → list_all is_name names ≡ true → IsDistinct names → AreEarlier (length names) numbers → 1 ≤ length numbers
    → Ends rest → sources names (spaced (list_text names numbers) rest) ≡ Ok (numbers, rest)
unfolding sources
sources_is names numbers rest are distinct earlier some ends =
    let long = length-map (name_at names) numbers in
    rw (list_spaced (map (name_at names) numbers) rest (omega (arith, long, some)) (numbers_names names numbers are earlier.below) ends)
    (rw (all_known_is names [] numbers distinct earlier.below)
    (rw (le-ltb 64 (length numbers) earlier.few) refl))

work-read : (names : List (List ℕ)) (done : Work) (rest : List ℕ) → list_all is_name names ≡ true → IsDistinct names → IsWork (length names) done → Follows rest
    → work names (work_text names done rest) ≡ Ok (done, rest)
unfolding work
work-read names (work_is.Merge numbers) rest are distinct is follows =
    rw (word_spaced (codes "merge") (spaced (list_text names numbers) rest) (record { some = refl; solid = refl }) refl)
    (rw (sources_is names numbers rest are distinct is.0 is.1 follows.ends) refl)
work-read names (work_is.Scan scan) rest are distinct is follows =
    let cols : Cols scan.columns = record { are = is.columns_are; distinct = is.distinct; few = is.few } in
    let grows = named_grows is.behind (map (λ test. test.column) scan.tests) (length scan.columns) is.tests_name in
    let folded = fold_is scan.columns scan.fold is.behind (spaced (codes "from") (spaced scan.file (tests_text scan.columns scan.tests rest))) cols grows is.fold_is is.fold_names refl in
    let tested = tests_is scan.columns is.behind scan.tests (length scan.columns) rest cols (omega arith) is.tests_few is.tests_are is.tests_name follows in
    rw folded.reads (rw folded.no_merge
    (scan_is scan folded.first folded.left rest is.behind is cols folded.goes tested (tests_end scan.columns scan.tests rest follows.ends)))

after-follows : (names : List (List ℕ)) (numbers : List ℕ) → Follows (after_text names numbers [])
after-follows names [] = record {
  ends = refl;
  no_where = option_end (codes "where") refl;
  no_and = option_end (codes "and") refl;
}
after-follows names (number ∷ numbers) = record {
  ends = refl;
  no_where = option_other (codes "where") (codes "after") (spaced (list_text names (number ∷ numbers)) []) (record { some = refl; solid = refl }) refl refl;
  no_and = option_other (codes "and") (codes "after") (spaced (list_text names (number ∷ numbers)) []) (record { some = refl; solid = refl }) refl refl;
}

after-read : (names : List (List ℕ)) (numbers : List ℕ) → list_all is_name names ≡ true → IsDistinct names → AreEarlier (length names) numbers
    → after names (after_text names numbers []) ≡ Ok (numbers, [])
unfolding after
after-read names [] are distinct earlier = rw (option_end (codes "after") refl) refl
after-read names (number ∷ numbers) are distinct earlier =
    rw (option_is (codes "after") (spaced (list_text names (number ∷ numbers)) []) (record { some = refl; solid = refl }) refl refl)
    (sources_is names (number ∷ numbers) [] are distinct earlier (omega arith) refl)

fold-ends : (columns : List (List ℕ)) (kind : FoldKind) (rest : List ℕ) → Ends (fold_text columns kind rest)
fold-ends columns (fold.Rows places) rest = refl
fold-ends columns fold.Count rest = refl
fold-ends columns (fold.Sum place) rest = refl
fold-ends columns (fold.Group place) rest = refl

work-ends : (names : List (List ℕ)) (done : Work) (rest : List ℕ) → Ends (work_text names done rest)
work-ends names (work_is.Scan scan) rest = fold-ends scan.columns scan.fold (spaced (codes "from") (spaced scan.file (tests_text scan.columns scan.tests rest)))
work-ends names (work_is.Merge numbers) rest = refl

name-read : (names : List (List ℕ)) (found rest : List ℕ) → is_name found ≡ true → position (bytes_eq found) names ≡ None → length names < 1000 → Ends rest
    → new_name names (found ++ rest) ≡ Ok (found, rest)
unfolding new_name
name-read names found rest is none room ends = rw (name_first found rest is ends) (rw none (rw (lt-ltb (length names) 1000 room) refl))

line-read : (names : List (List ℕ)) (shapes : List Shape) (one : Fragment) → list_all is_name names ≡ true → IsDistinct names → IsPlain names shapes one
    → line names shapes (line_text names one) ≡ Ok (one, [])
unfolding line
line-read names shapes one are distinct is =
    let behind = after_text names one.after [] in
    rw (name-read names one.name (work_text names one.work behind) is.name_is is.fresh is.room (work-ends names one.work behind))
    (rw (work-read names one.work behind are distinct is.work_is (after-follows names one.after))
    (rw (after-read names one.after are distinct is.after_is) (rw end_is (rw is.whole refl))))

-- a plain line is read as its fragment
pub fragment_read : (names : List (List ℕ)) (shapes : List Shape) (one : Fragment) → list_all is_name names ≡ true → IsDistinct names → IsPlain names shapes one
    → fragment_of names shapes (line_text names one) ≡ Ok one
unfolding fragment_of
fragment_read names shapes one are distinct is = rw (line-read names shapes one are distinct is) refl
