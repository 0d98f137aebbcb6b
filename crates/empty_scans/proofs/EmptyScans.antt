-- A scan of a plan that was read and that names no column.
use Rattle.std.proofs.Common.{◌≡◌, ℕ, ◌<◌, List, [], ◌∷◌, length, refl, ap, subst, arith}
use Rattle.std.specs.Prelude.{All}
use Rattle.std.proofs.lemmas.List.Elements.{All-head}
use Rattle.std.proofs.lemmas.Option.{slice_get_within, get_or_from_slice_get}
use Rattle.fragment_plan.specs.declared.fragment.Work.TheVariants as work
use Rattle.fragment_plan.specs.declared.fragment.FoldKind.{FoldKind}
use Rattle.fragment_plan.specs.declared.fragment.FoldKind.TheVariants as fold
use Rattle.fragment_plan.specs.declared.test.Test.{Test}
use Rattle.fragment_plan.specs.Bounds.{FoldInBounds, WorkInBounds, InBounds}
use Rattle.fragment_plan.specs.Laws.{PlansAreInBounds}
use Rattle.empty_scans.specs.Laws.{HasColumns, RowsHaveColumns, ScansWithoutColumnsCount}
use Rattle.empty_scans.proofs.NamedColumns.{plan_has, scan_keeps}

pub rows_have_columns : RowsHaveColumns
rows_have_columns plan number fragment scan (bytes, read) at is =
    let lt = slice_get_within plan number fragment at in
    let same = get_or_from_slice_get plan number fragment fragment at in
    let has = plan_has bytes plan read number fragment lt in
    scan_keeps fragment.work scan is (rw same at has)

-- among no columns there is no place
empty_fold : (f : FoldKind) → FoldInBounds 0 f → HasColumns f → f ≡ fold.Count
empty_fold (fold.Rows []) places has = absurd (omega (arith, has))
empty_fold (fold.Rows (place ∷ places)) below has = absurd (omega (arith, All-head (λ (p : ℕ). p < 0) place places below))
empty_fold fold.Count places has = refl
empty_fold (fold.Sum place) lt has = absurd (omega (arith, lt))
empty_fold (fold.Group place) lt has = absurd (omega (arith, lt))

empty_tests : (tests : List Test) → All (λ test. test.column < 0) tests → tests ≡ []
empty_tests [] below = refl
empty_tests (t ∷ tests) below = absurd (omega (arith, All-head (λ (test : Test). test.column < 0) t tests below))

module _ (in_bounds : PlansAreInBounds) where
  pub scans_without_columns_count : ScansWithoutColumnsCount
  scans_without_columns_count plan number fragment scan (bytes, read) at is none =
      let lt = slice_get_within plan number fragment at in
      let same = get_or_from_slice_get plan number fragment fragment at in
      let all = in_bounds bytes plan read in
      let placed = all number fragment lt in
      let here : InBounds number fragment = rw same at placed in
      let scan_is : WorkInBounds number (work.Scan scan) = subst (WorkInBounds number) is here.work_is in
      let count : length scan.columns ≡ 0 = ap length none in
      let fold_is : FoldInBounds 0 scan.fold = subst (λ (n : ℕ). FoldInBounds n scan.fold) count scan_is.fold_places in
      let tests_are : All (λ test. test.column < 0) scan.tests = subst (λ (n : ℕ). All (λ test. test.column < n) scan.tests) count scan_is.test_places in
      (empty_fold scan.fold fold_is (rows_have_columns plan number fragment scan (bytes, read) at is), empty_tests scan.tests tests_are)
