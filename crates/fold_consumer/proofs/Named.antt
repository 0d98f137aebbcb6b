-- Batches that are taken, one after the other, in the order of names.
use Rattle.std.proofs.Common.{◌≡◌, ℕ, ◌==◌, ◌||◌, Bool, true, false, List, [], ◌∷◌, length, refl, sym, ap, subst, ◌∙◌, arith}
use Rattle.std.specs.Prelude.{All}
use Rattle.std.specs.List.{list_any}
use Rattle.std.proofs.lemmas.Bool.Decides.{nat_tests}
use Rattle.std.proofs.lemmas.List.Elements.{All-nil, All-cons}
use Rattle.orc_values.specs.declared.value.Value.{Value}
use Rattle.orc_streams.specs.declared.layout.ReadColumn.{ReadColumn}
use Rattle.orc_batches.specs.Batch.{Batch, IsBatch}
use Rattle.orc_rows.specs.Given.{kinds_in}
use Rattle.fragment_folds.specs.Folding.{rows_in}
use Rattle.fragment_meaning.specs.ScanColumns.{by_number, values_at, in_named_order}
use Rattle.fold_consumer.proofs.Rows.{Long}
use Rattle.fold_consumer.specs.Pieces.{in_order}
use Rattle.fold_consumer.proofs.Orders.{Rect, batch_is_rect, rect_rows, order_long, none_named}

none_before : (a b : Bool) → (a || b) ≡ false → (a ≡ false) × (b ≡ false)
none_before false false is = (refl, refl)
none_before false true is = absurd cc
none_before true b is = absurd cc

differs : (a b : ℕ) → (a == b) ≡ false → a ≡ b → ⊥
differs a b is same = grind (arith, nat_tests)

abbrev batch_then : List Value → Batch → Batch
batch_then x xs = x ∷ xs

-- where one number's batch is taken, those of other numbers stay
pub others_stay : (number : ℕ) (read : List ReadColumn) (new old : Batch) (others : List ReadColumn) → list_any (λ (column : ReadColumn). column.number == number) others ≡ false
    → ((other : ℕ) → (other ≡ number → ⊥) → values_at other read new ≡ values_at other read old) → in_order read others new ≡ in_order read others old
others_stay number read new old [] none stay = refl
others_stay number read new old (other ∷ others) none stay =
    let split = none_before (other.number == number) (list_any (λ (column : ReadColumn). column.number == number) others) none in
    ap (λ (x : List Value). batch_then x (in_order read others new)) (stay other.number (differs other.number number split.0))
    ∙ ap (λ (xs : Batch). batch_then (values_at other.number read old) xs) (others_stay number read new old others split.1 stay)

long_all : (n m : ℕ) (batch : Batch) → m ≡ n → Long n batch → All (λ (column : List Value). length column ≡ m) batch
long_all n m [] same long = All-nil (λ (column : List Value). length column ≡ m)
long_all n m (x ∷ xs) same long = All-cons (λ (column : List Value). length column ≡ m) x xs (long.0 ∙ sym same) (long_all n m xs same long.1)

some_rows : (read : List ReadColumn) (n : ℕ) (batch : Batch) → Rect read n batch → (read ≡ [] → ⊥) → rows_in batch ≡ n
some_rows [] n batch is some = absurd (some refl)
some_rows (column ∷ columns) n batch is some = rect_rows column columns n batch is

no_rows_in : (read : List ReadColumn) (n : ℕ) (batch : Batch) → Rect read n batch → read ≡ [] → rows_in batch ≡ 0
no_rows_in [] n [] is none = refl
no_rows_in [] n (x ∷ xs) is none = absurd is
no_rows_in (column ∷ columns) n batch is none = absurd cc

-- A batch in the order of names: its columns have as many rows as the batch.
pub record Picks (named : List ReadColumn) (batch picked : Batch) : Type 0 where
  pub is : picked ≡ in_named_order named batch
  pub rows : All (λ (column : List Value). length column ≡ rows_in picked) picked
  pub many : rows_in picked ≡ rows_in batch

picks_in_order : (named : List ReadColumn) (n : ℕ) (batch : Batch) → Rect (by_number named) n batch → Picks named batch (in_named_order named batch)
picks_in_order [] n batch is = record { is = refl; rows = All-nil (λ (column : List Value). length column ≡ 0); many = sym (no_rows_in [] n batch is refl) }
picks_in_order (column ∷ columns) n batch is =
    let long = order_long (column ∷ columns) n batch is in
    let some : by_number (column ∷ columns) ≡ [] → ⊥ = λ none. some_named column columns (none_named (column ∷ columns) none) in
    record { is = refl; rows = long_all n (length (values_at column.number (by_number (column ∷ columns)) batch)) (in_named_order (column ∷ columns) batch) long.0 long; many = long.0 ∙ sym (some_rows (by_number (column ∷ columns)) n batch is some) }
  where
    some_named : (c : ReadColumn) (cs : List ReadColumn) → c ∷ cs ≡ [] → ⊥
    some_named c cs e = absurd cc

pub picked_so : (named read : List ReadColumn) (n : ℕ) (batch picked : Batch) → read ≡ by_number named → IsBatch (kinds_in read) n batch → picked ≡ in_order read named batch
    → Picks named batch picked
picked_so named read n batch picked is batched gathered =
    let rect = subst (λ (r : List ReadColumn). Rect r n batch) is (batch_is_rect read n batch batched) in
    subst (λ (p : Batch). Picks named batch p) (sym (gathered ∙ ap (λ (r : List ReadColumn). in_order r named batch) is)) (picks_in_order named n batch rect)

no_kinds : (read : List ReadColumn) → kinds_in read ≡ [] → read ≡ []
no_kinds [] e = refl
no_kinds (column ∷ columns) e = absurd cc

pub no_columns : (named : List ReadColumn) → kinds_in (by_number named) ≡ [] → named ≡ []
no_columns named e = none_named named (no_kinds (by_number named) e)
