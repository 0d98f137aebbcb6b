-- What rows bring to a fold.
use Rattle.std.proofs.Common.{◌≡◌, ◌==◌, true, ◌<◌, ℕ, ◌+◌, ◌^◌, Bool, List, [], ◌∷◌, ◌++◌, length, map, replicate, refl, sym, ◌∙◌, ap, arith}
use Rattle.std.proofs.lemmas.List.{length-map, length-replicate}
use Rattle.orc_values.specs.declared.value.Value.{Value}
use Rattle.fragment_plan.specs.declared.fragment.FoldKind.TheVariants as kind
use Rattle.fragment_plan.specs.declared.fragment.Scan.{Scan}
use Rattle.fragment_plan.specs.declared.test.Test.{Test}
use Rattle.group_counts.specs.Order.{value_cmp}
use Rattle.group_counts.specs.Tally.{plus, added, added_all}
use Rattle.group_counts.specs.Entries.{Entries}
use Rattle.batch_masks.specs.Kept.{kept}
use Rattle.batch_masks.specs.KeptLaws.{kept-filter}
use Rattle.batch_masks.specs.Rows.{passes, passing, rows_of}
use Rattle.batch_masks.specs.RowsLaws.{length-rows_from}
use Rattle.fold_rows.specs.declared.state.State.{State}
use Rattle.fold_rows.specs.States.{with_rows}
use Rattle.fragment_folds.specs.Folding.{FoldOf, folded}

pub added_all-append : (es fs gs : Entries) → added_all value_cmp es (fs ++ gs) ≡ added_all value_cmp (added_all value_cmp es fs) gs
added_all-append es [] gs = refl
added_all-append es (f ∷ fs) gs = added_all-append (added value_cmp es f.0 f.1) fs gs

map-same : (rows : List (List Value)) → map (λ (row : List Value). row) rows ≡ rows
map-same [] = refl
map-same (row ∷ rows) = ap (λ (l : List (List Value)). row ∷ l) (map-same rows)

-- the rows that are kept by the tests are those that pass
pub kept-passing : (scan : Scan) (rows : List (List Value)) → kept (map (passes scan.tests) rows) rows ≡ passing scan.tests rows
kept-passing scan rows =
    ap (kept (map (passes scan.tests) rows)) (sym (map-same rows)) ∙ kept-filter (passes scan.tests) (λ (row : List Value). row) rows ∙ map-same (passing scan.tests rows)

passing-none : (rows : List (List Value)) → passing [] rows ≡ rows
passing-none [] = refl
passing-none (row ∷ rows) = ap (λ (l : List (List Value)). row ∷ l) (passing-none rows)

-- no test is there where they are none
pub none-is : (tests : List Test) → (length tests == 0) ≡ true → tests ≡ []
none-is [] e = refl
none-is (test ∷ tests) e = absurd (grind (arith, e))

-- without a test all rows pass
pub whole-passes : (tests : List Test) (rows : List (List Value)) → tests ≡ [] → rows ≡ passing tests rows
whole-passes tests rows none = sym (passing-none rows) ∙ ap (λ (l : List Test). passing l rows) (sym none)

-- counting rows without a test
pub counted : (f : FoldOf) (n : ℕ) → f.scan.fold ≡ kind.Count → f.scan.tests ≡ []
    → record { scan = f.scan; rows = plus f.rows n; state = with_rows kind.Count f.state (replicate n []) } ≡ folded f (replicate n [])
counted f n count all =
    let rows : List (List Value) = replicate n [] in
    ap (λ (k : ℕ). record { scan = f.scan; rows = plus f.rows k; state = with_rows kind.Count f.state rows }) (sym (length-replicate n []))
    ∙ ap (λ kind. record { scan = f.scan; rows = plus f.rows (length rows); state = with_rows kind f.state rows }) (sym count)
    ∙ ap (λ (l : List (List Value)). record { scan = f.scan; rows = plus f.rows (length rows); state = with_rows f.scan.fold f.state l }) (sym (passing-none rows) ∙ ap (λ tests. passing tests rows) (sym all))

-- a mask of all rows has a flag for each
pub length-mask : (scan : Scan) (n : ℕ) (columns : List (List Value)) (mask : List Bool) → mask ≡ map (passes scan.tests) (rows_of n columns) → length mask ≡ n
length-mask scan n columns mask is = ap (λ (l : List Bool). length l) is ∙ length-map (rows_of n columns) (passes scan.tests) ∙ length-rows_from 0 n columns

-- what is kept by the mask of a scan's tests
pub kept-mask : (scan : Scan) (n : ℕ) (columns : List (List Value)) (mask : List Bool) → mask ≡ map (passes scan.tests) (rows_of n columns)
    → kept mask (rows_of (length mask) columns) ≡ passing scan.tests (rows_of n columns)
kept-mask scan n columns mask is =
    ap (λ (k : ℕ). kept mask (rows_of k columns)) (length-mask scan n columns mask is)
    ∙ ap (λ (l : List Bool). kept l (rows_of n columns)) is
    ∙ kept-passing scan (rows_of n columns)

-- folding the rows of a batch
pub batched : (f : FoldOf) (scan : Scan) (n m : ℕ) (columns : List (List Value)) (was now : State) → f.scan ≡ scan → was ≡ f.state → m ≡ n → f.rows + n < 2 ^ 63
    → now ≡ with_rows scan.fold was (passing scan.tests (rows_of m columns))
    → record { scan = f.scan; rows = f.rows + m; state = now } ≡ folded f (rows_of n columns)
batched f scan n m columns was now scan_is was_is same few is =
    let rows = rows_of n columns in
    let long : f.rows + m ≡ plus f.rows (length rows) = omega (arith, same, length-rows_from 0 n columns) in
    let state_is : now ≡ with_rows f.scan.fold f.state (passing f.scan.tests rows) =
    is ∙ ap (λ (k : ℕ). with_rows scan.fold was (passing scan.tests (rows_of k columns))) same
    ∙ ap (λ (s : State). with_rows scan.fold s (passing scan.tests rows)) was_is
    ∙ ap (λ (s : Scan). with_rows s.fold f.state (passing s.tests rows)) (sym scan_is) in
    ap (λ (k : ℕ). record { scan = f.scan; rows = k; state = now }) long
    ∙ ap (λ (s : State). record { scan = f.scan; rows = plus f.rows (length rows); state = s }) state_is
