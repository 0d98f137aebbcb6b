-- What rows bring to a fold.
use Rattle.std.proofs.Common.{◌≡◌, ◌<◌, ℕ, ◌+◌, Bool, true, false, List, [], ◌∷◌, ◌++◌, length, take, map, get_or, replicate, Option, Some, None, IfSome, if◌then◌else◌, refl, sym, ◌∙◌, ap, arith, append_assoc, append-nil}
use Rattle.std.proofs.lemmas.List.{length-replicate, map-append}
use Rattle.orc_values.specs.declared.value.Value.{Value}
use Rattle.orc_values.specs.declared.value.Value.TheVariants as value
use Rattle.orc_values.specs.Woven.{present_count}
use Rattle.fragment_plan.specs.declared.fragment.FoldKind.TheVariants as kind
use Rattle.group_counts.specs.Order.{value_cmp}
use Rattle.group_counts.specs.Tally.{plus, added, added_all}
use Rattle.group_counts.specs.Entries.{Entries}
use Rattle.group_counts.specs.EntryCounts.{flagged}
use Rattle.batch_masks.specs.Kept.{kept}
use Rattle.batch_masks.specs.KeptLaws.{kept_more}
use Rattle.batch_masks.specs.Rows.{field, row_at, rows_of}
use Rattle.batch_masks.specs.RowsLaws.{get_or-rows_from, length-rows_from, column_of_rows}
use Rattle.fold_rows.specs.declared.state.State.{State}
use Rattle.fold_rows.specs.declared.state.State.TheVariants as state
use Rattle.fold_rows.specs.States.{picked, column_of, once, with_rows}

added_all-append : (es fs gs : Entries) → added_all value_cmp es (fs ++ gs) ≡ added_all value_cmp (added_all value_cmp es fs) gs
added_all-append es [] gs = refl
added_all-append es (f ∷ fs) gs = added_all-append (added value_cmp es f.0 f.1) fs gs

-- values whose flag is set are those that pass
pub flagged-once : (flags : List Bool) (column : List Value) → flagged flags column ≡ once (kept flags column)
flagged-once [] column = refl
flagged-once (p ∷ flags) [] = refl
flagged-once (true ∷ flags) (v ∷ column) = ap (λ (es : Entries). (v, 1) ∷ es) (flagged-once flags column)
flagged-once (false ∷ flags) (v ∷ column) = flagged-once flags column

-- one row more of those that pass
pub once_more : (start now : Entries) (flags : List Bool) (column : List Value) (i : ℕ) → length flags ≡ length column → i < length column
    → now ≡ added_all value_cmp start (once (kept (take i flags) (take i column)))
    → (if get_or flags i false then added value_cmp now (get_or column i value.Null) 1 else now) ≡ added_all value_cmp start (once (kept (take (i + 1) flags) (take (i + 1) column)))
once_more start now flags column i len lt is = sym (
    ap (λ (l : List Value). added_all value_cmp start (once l)) (kept_more flags column i false value.Null len lt)
    ∙ by (get_or flags i false))
  where
    front : List Value
    front = kept (take i flags) (take i column)

    by : (p : Bool) → added_all value_cmp start (once (kept (take i flags) (take i column) ++ (if p then get_or column i value.Null ∷ [] else [])))
        ≡ (if p then added value_cmp now (get_or column i value.Null) 1 else now)
    by true =
        ap (added_all value_cmp start) (map-append (λ (key : Value). (key, 1)) (kept (take i flags) (take i column)) (get_or column i value.Null ∷ []))
        ∙ added_all-append start (once (kept (take i flags) (take i column))) ((get_or column i value.Null, 1) ∷ [])
        ∙ ap (λ (es : Entries). added value_cmp es (get_or column i value.Null) 1) (sym is)
    by false = ap (λ (l : List Value). added_all value_cmp start (once l)) (append-nil (kept (take i flags) (take i column))) ∙ sym is

pub rows_more : (start now : List (List Value)) (places : List ℕ) (flags : List Bool) (columns : List (List Value)) (n i : ℕ) → length flags ≡ n → i < n
    → now ≡ start ++ map (picked places) (kept (take i flags) (take i (rows_of n columns)))
    → now ++ (if get_or flags i false then picked places (row_at columns i) ∷ [] else []) ≡ start ++ map (picked places) (kept (take (i + 1) flags) (take (i + 1) (rows_of n columns)))
rows_more start now places flags columns n i len lt is =
    let none : List Value = [] in
    let rows = rows_of n columns in
    let long : length rows ≡ n = length-rows_from 0 n columns in
    let zero_i : 0 + i ≡ i = omega arith in
    let here : get_or rows i none ≡ row_at columns i = get_or-rows_from 0 n i columns none lt ∙ ap (row_at columns) zero_i in
    sym (ap (λ (l : List (List Value)). start ++ map (picked places) l) (kept_more flags rows i false none (len ∙ sym long) (omega arith))
    ∙ ap (λ (r : List Value). start ++ map (picked places) (kept (take i flags) (take i rows) ++ (if get_or flags i false then r ∷ [] else []))) here
    ∙ by (get_or flags i false))
  where
    by : (p : Bool) → start ++ map (picked places) (kept (take i flags) (take i (rows_of n columns)) ++ (if p then row_at columns i ∷ [] else []))
        ≡ now ++ (if p then picked places (row_at columns i) ∷ [] else [])
    by true =
        ap (λ (l : List (List Value)). start ++ l) (map-append (picked places) (kept (take i flags) (take i (rows_of n columns))) (row_at columns i ∷ []))
        ∙ sym (append_assoc start (map (picked places) (kept (take i flags) (take i (rows_of n columns)))) (picked places (row_at columns i) ∷ []))
        ∙ ap (λ (l : List (List Value)). l ++ picked places (row_at columns i) ∷ []) (sym is)
    by false =
        ap (λ (l : List (List Value)). start ++ map (picked places) l) (append-nil (kept (take i flags) (take i (rows_of n columns))))
        ∙ sym is ∙ sym (append-nil now)

-- as many rows are kept as flags are set
pub length-kept : {A : Type 0} (flags : List Bool) (rows : List A) → length flags ≡ length rows → length (kept flags rows) ≡ present_count flags
length-kept [] [] len = refl
length-kept [] (row ∷ rows) len = absurd (omega arith)
length-kept (p ∷ flags) [] len = absurd (omega arith)
length-kept (true ∷ flags) (row ∷ rows) len = omega (arith, length-kept flags rows (omega arith))
length-kept (false ∷ flags) (row ∷ rows) len = omega (arith, length-kept flags rows (omega arith))

kept-map : {A B : Type 0} (f : A → B) (flags : List Bool) (rows : List A) → map f (kept flags rows) ≡ kept flags (map f rows)
kept-map f [] rows = refl
kept-map f (p ∷ flags) [] = refl
kept-map {B = B} f (true ∷ flags) (row ∷ rows) = ap (λ (l : List B). f row ∷ l) (kept-map f flags rows)
kept-map f (false ∷ flags) (row ∷ rows) = kept-map f flags rows

-- a column of the rows that are kept is what is kept of the column
pub column_kept : (flags : List Bool) (columns : List (List Value)) (n c : ℕ) → c < length columns → length (get_or columns c []) ≡ n
    → kept flags (get_or columns c []) ≡ column_of c (kept flags (rows_of n columns))
column_kept flags columns n c lt len = ap (kept flags) (sym (column_of_rows columns n c lt len)) ∙ sym (kept-map (λ row. field row c) flags (rows_of n columns))

-- counting looks at the number of rows alone
pub count-length : (s : State) (xs ys : List (List Value)) → length xs ≡ length ys → with_rows kind.Count s xs ≡ with_rows kind.Count s ys
count-length (state.Rows table) xs ys len = refl
count-length (state.Count count) xs ys len = ap (λ (n : ℕ). state.Count (plus count n)) len
count-length (state.Sum total) xs ys len = refl
count-length (state.Group counts) xs ys len = refl

-- where every flag is set, every row is kept
pub kept-all : {A : Type 0} (rows : List A) → kept (replicate (length rows) true) rows ≡ rows
kept-all [] = refl
kept-all {A} (row ∷ rows) = ap (λ (l : List A). row ∷ l) (kept-all rows)

pub kept-whole : (n : ℕ) (columns : List (List Value)) (mask : List Bool) → mask ≡ replicate n true
    → kept mask (rows_of (length mask) columns) ≡ rows_of n columns
kept-whole n columns mask is =
    let len : length mask ≡ n = ap (λ (l : List Bool). length l) is ∙ length-replicate n true in
    let rows = rows_of n columns in
    ap (λ (k : ℕ). kept mask (rows_of k columns)) len
    ∙ ap (λ (l : List Bool). kept l rows) (is ∙ ap (λ (k : ℕ). replicate k true) (sym (length-rows_from 0 n columns)))
    ∙ kept-all rows

-- so many rows are counted without a look at them
pub count-whole : (s : State) (n : ℕ) (columns : List (List Value)) → with_rows kind.Count s (replicate n []) ≡ with_rows kind.Count s (rows_of n columns)
count-whole s n columns =
    let none : List Value = [] in
    count-length s (replicate n none) (rows_of n columns) (length-replicate n none ∙ sym (length-rows_from 0 n columns))
