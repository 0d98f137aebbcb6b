-- The fold's answer is what is meant.
use Rattle.std.proofs.Common.{◌≡◌, ◌≢◌, ◌<◌, ◌≤◌, ◌+◌, ◌-◌, ◌^◌, min, ℕ, ℤ, pos, Bool, true, false, cond, if◌then◌else◌, ◌&&◌, nat_lt, List, [], ◌∷◌, length, map, Option, Some, None, Result, Ok, Err, true≢false, refl, sym, ◌∙◌, ap, subst, arith}
use Rattle.std.specs.Option.{unwrap_or}
use Rattle.std.specs.Ordering.{is_eq, eq_by_cmp, nat_cmp, int_cmp}
use Rattle.std.specs.Cmp.{IsTotalOrder}
use Rattle.std.specs.Cmp.Lexicographic.{slice_cmp}
use Rattle.std.specs.Map.{keys_of, values_of, lookup}
use Rattle.std.specs.List.{AllByRecursion}
use Rattle.std.specs.List.Sorted.{IsStrictlySortedBy}
use Rattle.std.proofs.lemmas.Bool.Decides.{nat_tests}
use Rattle.std.proofs.lemmas.Cmp.{nat_cmp_total, int_cmp_total, nat_list_cmp_total, on_total, then_total, eq_by_cmp_equiv, tied_itself}
use Rattle.std.proofs.lemmas.Map.{lookup-none}
use Rattle.std.proofs.lemmas.Map.Entries.{none_past_head}
use Rattle.std.proofs.lemmas.Map.Keys.{sorted_tail, IsDistinct-from_sorted}
use Rattle.orc_values.specs.declared.value.Value.{Value}
use Rattle.fragment_plan.specs.declared.fragment.FoldKind.{FoldKind}
use Rattle.fragment_plan.specs.declared.fragment.FoldKind.TheVariants as kind
use Rattle.fragment_plan.specs.declared.fragment.Scan.{Scan}
use Rattle.group_counts.specs.Order.{value_cmp, rank, number_in, bytes_in}
use Rattle.group_counts.specs.Tally.{plus, added_all, count_in, total_at, Few, AreCounts}
use Rattle.group_counts.specs.Entries.{Entries, all_fit}
use Rattle.batch_masks.specs.Rows.{passing}
use Rattle.batch_masks.specs.Totals.{numbers_in, has_some, plus_all}
use Rattle.fragment_outcome.specs.declared.answer.Answer.{Answer}
use Rattle.fragment_outcome.specs.declared.answer.Answer.TheVariants as answer
use Rattle.fragment_folds.specs.declared.faults.Overflow.{Overflow}
use Rattle.fold_rows.specs.States.{column_of, once, nothing, with_rows}
use Rattle.fragment_folds.specs.Folding.{begun, folded, finished, is_i64}
use Rattle.fold_meaning.specs.Meaning.{sum_of, number_of, AreGroups, IsAnswerOf}
use Rattle.fold_meaning.specs.Meaning.IsAnswerOf.{rows as rows_are, count as count_is, count_overflows as count_passes, null as null_is, sum as sum_is, sum_overflows as sum_passes, group as group_is, group_overflows as group_passes}

abbrev refused : Result Answer Overflow
refused = Err (record {})

below : (m n : ℕ) → nat_lt m n ≡ true → m < n
below m n h = grind (arith, nat_tests)

not_below : (m n : ℕ) → nat_lt m n ≡ false → n ≤ m
not_below m n h = grind (arith, nat_tests)

count_by : (rows : List (List Value)) (m : ℕ) (b : Bool) → m ≡ plus 0 (length rows) → nat_lt m (2 ^ 63) ≡ b
    → IsAnswerOf kind.Count rows (if b then Ok (answer.Count (pos m)) else refused)
count_by rows m true is lt =
    let small : m < 2 ^ 63 = below m (2 ^ 63) lt in
    let same : length rows ≡ m = omega arith in
    subst (λ (n : ℕ). IsAnswerOf kind.Count rows (Ok (answer.Count (pos n)))) same (count_is rows (omega arith))
count_by rows m false is lt = let great : 2 ^ 63 ≤ m = not_below m (2 ^ 63) lt in count_passes rows (omega arith)

none_is : (xs : List ℤ) → has_some xs ≡ false → xs ≡ []
none_is [] h = refl
none_is (x ∷ xs) h = absurd (true≢false h)

some_is : (xs : List ℤ) → has_some xs ≡ true → xs ≢ []
some_is xs h e = true≢false (sym h ∙ ap has_some e)

sum_by : (place : ℕ) (rows : List (List Value)) (s b : Bool) → has_some (numbers_in (column_of place rows)) ≡ s → is_i64 (sum_of (numbers_in (column_of place rows))) ≡ b
    → IsAnswerOf (kind.Sum place) rows (if s then (if b then Ok (answer.Sum (Some (sum_of (numbers_in (column_of place rows))))) else refused) else Ok (answer.Sum None))
sum_by place rows true true some fits = sum_is place rows (some_is (numbers_in (column_of place rows)) some) fits
sum_by place rows true false some fits = sum_passes place rows fits
sum_by place rows false b some fits = null_is place rows (none_is (numbers_in (column_of place rows)) some)

total : IsTotalOrder value_cmp
total = then_total (on_total rank nat_cmp_total) (then_total (on_total number_in int_cmp_total) (on_total bytes_in nat_list_cmp_total))

and_left : (a b : Bool) → (a && b) ≡ true → a ≡ true
and_left true b h = refl
and_left false b h = absurd (true≢false (sym h))

and_right : (a b : Bool) → (a && b) ≡ true → b ≡ true
and_right true b h = h
and_right false b h = absurd (true≢false (sym h))

-- where all counts fit, so does each
fits_at : (es : Entries) (k : Value) → all_fit es ≡ true → count_in value_cmp es k < 2 ^ 63
fits_at [] k h = omega arith
fits_at (e ∷ es) k h = by (is_eq (value_cmp k e.0)) (fits_at es k (and_right (nat_lt e.1 (2 ^ 63)) (all_fit es) h))
  where
    by : (b : Bool) → count_in value_cmp es k < 2 ^ 63 → unwrap_or (cond b (Some e.1) (lookup (λ x. is_eq (value_cmp k x)) es)) 0 < 2 ^ 63
    by true rest = below e.1 (2 ^ 63) (and_left (nat_lt e.1 (2 ^ 63)) (all_fit es) h)
    by false rest = rest

-- what is known of all keys is known of those behind the first
behind : (e : Value × ℕ) (es : Entries) → IsStrictlySortedBy value_cmp (keys_of (e ∷ es)) → ((k : Value) → count_in value_cmp (e ∷ es) k < 2 ^ 63) → (k : Value) → count_in value_cmp es k < 2 ^ 63
behind e es sorted all k = by (is_eq (value_cmp k e.0)) refl (all k)
  where
    by : (b : Bool) → is_eq (value_cmp k e.0) ≡ b → unwrap_or (cond b (Some e.1) (lookup (λ x. is_eq (value_cmp k x)) es)) 0 < 2 ^ 63 → count_in value_cmp es k < 2 ^ 63
    by true is h =
        let none = lookup-none (eq_by_cmp value_cmp k) es (none_past_head (eq_by_cmp_equiv total) k e es (IsDistinct-from_sorted value_cmp (keys_of (e ∷ es)) sorted) is) in
        rw none (omega arith)
    by false is h = h

-- where each key's count fits, all do
all_fit-from : (es : Entries) → IsStrictlySortedBy value_cmp (keys_of es) → ((k : Value) → count_in value_cmp es k < 2 ^ 63) → all_fit es ≡ true
all_fit-from [] sorted all = refl
all_fit-from (e ∷ es) sorted all =
    let own : is_eq (value_cmp e.0 e.0) ≡ true = ap is_eq (tied_itself total e.0) in
    let small : e.1 < 2 ^ 63 = rw own at (all e.0) in
    let test : nat_lt e.1 (2 ^ 63) ≡ true = grind (arith, nat_tests) in
    ap (λ (b : Bool). b && all_fit es) test ∙ all_fit-from es (sorted_tail value_cmp e.0 (keys_of es) sorted) (behind e es sorted all)

once-few : (keys : List Value) → AllByRecursion Few (values_of (once keys))
once-few [] = tt
once-few (k ∷ keys) = (omega arith, once-few keys)

once-some : (keys : List Value) → AllByRecursion (λ n. 0 < n) (values_of (once keys))
once-some [] = tt
once-some (k ∷ keys) = (omega arith, once-some keys)

group_by : (place : ℕ) (rows : List (List Value)) (es : Entries) (b : Bool) → AreCounts value_cmp (once (column_of place rows)) es → all_fit es ≡ b
    → IsAnswerOf (kind.Group place) rows (if b then Ok (answer.Group es) else refused)
group_by place rows es true are fit =
    let keys = column_of place rows in
    let small = λ (k : Value). fits_at es k fit in
    group_is place rows es
    (record { ordered = are.ordered; numbers = λ k. exact (number_of keys k) (count_in value_cmp es k) (are.counts k) (small k); some = are.some (once-some keys) })
    (λ k. few (number_of keys k) (count_in value_cmp es k) (are.counts k) (small k))
  where
    exact : (n m : ℕ) → m ≡ min n (2 ^ 64 - 1) → m < 2 ^ 63 → m ≡ n
    exact n m is lt = omega arith

    few : (n m : ℕ) → m ≡ min n (2 ^ 64 - 1) → m < 2 ^ 63 → n < 2 ^ 63
    few n m is lt = omega arith
group_by place rows es false are fit =
    group_passes place rows (λ all. true≢false (sym (all_fit-from es are.ordered (λ k. capped (number_of (column_of place rows) k) (count_in value_cmp es k) (are.counts k) (all k))) ∙ fit))
  where
    capped : (n m : ℕ) → m ≡ min n (2 ^ 64 - 1) → n < 2 ^ 63 → m < 2 ^ 63
    capped n m is lt = omega arith

-- a scan's fold of all rows gives what is meant, by its kind
module _ (counts : (list : Entries) → AllByRecursion Few (values_of list) → AreCounts value_cmp list (added_all value_cmp [] list)) where
  by_kind : (fold : FoldKind) (rows : List (List Value)) → IsAnswerOf fold rows (finished (with_rows fold (nothing fold) rows))
  by_kind (kind.Rows places) rows = rows_are places rows
  by_kind kind.Count rows = count_by rows (plus 0 (length rows)) (nat_lt (plus 0 (length rows)) (2 ^ 63)) refl refl
  by_kind (kind.Sum place) rows = sum_by place rows (has_some (numbers_in (column_of place rows))) (is_i64 (sum_of (numbers_in (column_of place rows)))) refl refl
  by_kind (kind.Group place) rows =
      let keys = once (column_of place rows) in
      group_by place rows (added_all value_cmp [] keys) (all_fit (added_all value_cmp [] keys)) (counts keys (once-few (column_of place rows))) refl

  pub meant : (scan : Scan) (rows : List (List Value)) → IsAnswerOf scan.fold (passing scan.tests rows) (finished (folded (begun scan) rows).state)
  meant scan rows = by_kind scan.fold (passing scan.tests rows)
