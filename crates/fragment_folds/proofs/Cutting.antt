-- Any cutting of rows, or of answers, gives the same.
use Rattle.std.proofs.Common.{◌≡◌, ℕ, ◌+◌, ℤ, ◌+ℤ◌, Bool, true, false, ◌||◌, List, [], ◌∷◌, ◌++◌, length, map, refl, sym, ◌∙◌, ap, arith, append_assoc, length-append}
use Rattle.std.proofs.lemmas.List.{map-append}
use Rattle.std.proofs.lemmas.List.Elements.{filter-append}
use Rattle.orc_values.specs.declared.value.Value.{Value}
use Rattle.orc_values.specs.declared.value.Value.TheVariants as value
use Rattle.fragment_plan.specs.declared.fragment.FoldKind.{FoldKind}
use Rattle.fragment_plan.specs.declared.fragment.FoldKind.TheVariants as kind
use Rattle.group_counts.specs.Order.{value_cmp}
use Rattle.group_counts.specs.Tally.{plus, added_all}
use Rattle.group_counts.specs.Entries.{Entries}
use Rattle.batch_masks.specs.Rows.{field, passes, passing}
use Rattle.batch_masks.specs.Totals.{numbers_in, plus_all, has_some, with_numbers}
use Rattle.batch_masks.specs.declared.total.Total.{Total}
use Rattle.fragment_outcome.specs.declared.answer.Answer.{Answer}
use Rattle.fold_rows.specs.declared.state.State.{State}
use Rattle.fold_rows.specs.declared.state.State.TheVariants as state
use Rattle.fold_rows.specs.States.{picked, column_of, once, with_rows}
use Rattle.fragment_folds.specs.Folding.{FoldOf, folded}
use Rattle.fragment_folds.specs.Merging.{MergeOf, merged, merged_all}
use Rattle.fragment_folds.proofs.Folds.{added_all-append}

numbers_in-append : (xs ys : List Value) → numbers_in (xs ++ ys) ≡ numbers_in xs ++ numbers_in ys
numbers_in-append [] ys = refl
numbers_in-append (value.Null ∷ xs) ys = numbers_in-append xs ys
numbers_in-append (value.Bool b ∷ xs) ys = numbers_in-append xs ys
numbers_in-append (value.Int n ∷ xs) ys = ap (λ (l : List ℤ). n ∷ l) (numbers_in-append xs ys)
numbers_in-append (value.Text text ∷ xs) ys = numbers_in-append xs ys

plus_all-append : (sum : ℤ) (xs ys : List ℤ) → plus_all (plus_all sum xs) ys ≡ plus_all sum (xs ++ ys)
plus_all-append sum [] ys = refl
plus_all-append sum (x ∷ xs) ys = plus_all-append (sum +ℤ x) xs ys

or_assoc : (a b c : Bool) → ((a || b) || c) ≡ (a || (b || c))
or_assoc true b c = refl
or_assoc false b c = refl

has_some-append : (xs ys : List ℤ) → (has_some xs || has_some ys) ≡ has_some (xs ++ ys)
has_some-append [] ys = refl
has_some-append (x ∷ xs) ys = refl

with_numbers-append : (total : Total) (xs ys : List ℤ) → with_numbers (with_numbers total xs) ys ≡ with_numbers total (xs ++ ys)
with_numbers-append total xs ys =
    ap (λ (b : Bool). record { some = b; sum = plus_all (plus_all total.sum xs) ys }) (or_assoc total.some (has_some xs) (has_some ys) ∙ ap (λ (b : Bool). total.some || b) (has_some-append xs ys))
    ∙ ap (λ (s : ℤ). record { some = total.some || has_some (xs ++ ys); sum = s }) (plus_all-append total.sum xs ys)

plus_plus : (n : ℕ) (xs ys : List (List Value)) → plus (plus n (length xs)) (length ys) ≡ plus n (length (xs ++ ys))
plus_plus n xs ys = let long : length (xs ++ ys) ≡ length xs + length ys = length-append xs ys in omega arith

column-append : (c : ℕ) (xs ys : List (List Value)) → column_of c (xs ++ ys) ≡ column_of c xs ++ column_of c ys
column-append c xs ys = map-append (λ (row : List Value). field row c) xs ys

by_kind : (kind : FoldKind) (s : State) (xs ys : List (List Value)) → with_rows kind (with_rows kind s xs) ys ≡ with_rows kind s (xs ++ ys)
by_kind (kind.Rows places) (state.Rows table) xs ys =
    ap (λ (l : List (List Value)). state.Rows l) (append_assoc table (map (picked places) xs) (map (picked places) ys) ∙ ap (λ (l : List (List Value)). table ++ l) (sym (map-append (picked places) xs ys)))
by_kind (kind.Rows places) (state.Count count) xs ys = refl
by_kind (kind.Rows places) (state.Sum total) xs ys = refl
by_kind (kind.Rows places) (state.Group counts) xs ys = refl
by_kind kind.Count (state.Rows table) xs ys = refl
by_kind kind.Count (state.Count count) xs ys = ap (λ (n : ℕ). state.Count n) (plus_plus count xs ys)
by_kind kind.Count (state.Sum total) xs ys = refl
by_kind kind.Count (state.Group counts) xs ys = refl
by_kind (kind.Sum c) (state.Rows table) xs ys = refl
by_kind (kind.Sum c) (state.Count count) xs ys = refl
by_kind (kind.Sum c) (state.Sum total) xs ys =
    ap (λ (t : Total). state.Sum t) (with_numbers-append total (numbers_in (column_of c xs)) (numbers_in (column_of c ys))
    ∙ ap (λ (l : List ℤ). with_numbers total l) (sym (numbers_in-append (column_of c xs) (column_of c ys)) ∙ ap numbers_in (sym (column-append c xs ys))))
by_kind (kind.Sum c) (state.Group counts) xs ys = refl
by_kind (kind.Group c) (state.Rows table) xs ys = refl
by_kind (kind.Group c) (state.Count count) xs ys = refl
by_kind (kind.Group c) (state.Sum total) xs ys = refl
by_kind (kind.Group c) (state.Group counts) xs ys =
    ap (λ (es : Entries). state.Group es) (sym (added_all-append counts (once (column_of c xs)) (once (column_of c ys)))
    ∙ ap (λ (l : Entries). added_all value_cmp counts l) (sym (map-append (λ (key : Value). (key, 1)) (column_of c xs) (column_of c ys)) ∙ ap once (sym (column-append c xs ys))))

pub folded-append : (f : FoldOf) (front back : List (List Value)) → folded (folded f front) back ≡ folded f (front ++ back)
folded-append f front back =
    ap (λ (n : ℕ). record { scan = f.scan; rows = n; state = with_rows f.scan.fold (with_rows f.scan.fold f.state (passing f.scan.tests front)) (passing f.scan.tests back) }) (plus_plus f.rows front back)
    ∙ ap (λ (s : State). record { scan = f.scan; rows = plus f.rows (length (front ++ back)); state = s })
    (by_kind f.scan.fold f.state (passing f.scan.tests front) (passing f.scan.tests back)
    ∙ ap (λ (l : List (List Value)). with_rows f.scan.fold f.state l) (sym (filter-append (passes f.scan.tests) front back)))

pub merged_all-append : (m : MergeOf) (front back : List Answer) → merged_all (merged_all m front) back ≡ merged_all m (front ++ back)
merged_all-append m [] back = refl
merged_all-append m (next ∷ front) back = merged_all-append (merged m next) front back
