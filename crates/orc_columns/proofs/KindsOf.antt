-- The values of a spelling are of the column's kind.
use Rattle.std.proofs.Common.{◌≡◌, ℕ, Bool, true, false, List, map, Option, Some, None, refl, subst, arith}
use Rattle.std.specs.Prelude.{◌==◌, if◌then◌else◌, IsTrue, All, slice_index_or}
use Rattle.std.proofs.lemmas.List.Elements.{All-map}
use Rattle.orc_values.specs.declared.column_values.ColumnValues.{ColumnValues}
use Rattle.orc_values.specs.declared.column_values.ColumnValues.TheVariants as list
use Rattle.orc_values.specs.declared.value.Value.{Value}
use Rattle.orc_values.specs.declared.value.Value.TheVariants as value
use Rattle.orc_values.specs.Column.{column_of, value_by}
use Rattle.orc_values.specs.Woven.{woven}
use Rattle.orc_columns.specs.declared.spelling.Spelling.{Spelling}
use Rattle.orc_columns.specs.declared.spelling.Spelling.TheVariants.{Bits, Integers, Texts, Dictionary}
use Rattle.orc_columns.specs.declared.spelling.Version.TheVariants.{One, Two}
use Rattle.orc_columns.specs.Batches.{IsOfKind, IsTyped}
use Rattle.orc_columns.specs.Spelling.{bits_by, texts_by, integers_by, is_integer_kind, spelling_of}

abbrev KindOf : ℕ → Spelling → Type 0
KindOf kind Bits = kind ≡ 0
KindOf kind (Integers version) = IsTrue (is_integer_kind kind)
KindOf kind (Texts version) = kind ≡ 7
KindOf kind (Dictionary version) = kind ≡ 7

some_is : (x y : Spelling) → Some x ≡ Some y → x ≡ y
some_is x y e = cc

none_is : (y : Spelling) → None ≡ Some y → ⊥
none_is y e = cc

equal : (a b : ℕ) → (a == b) ≡ true → a ≡ b
equal a b e = grind arith

bits_kind : (kind : ℕ) (test : Bool) (s : Spelling) → kind ≡ 0 → (if test then Some Bits else None) ≡ Some s → KindOf kind s
bits_kind kind true s is e = subst (λ (x : Spelling). KindOf kind x) (some_is Bits s e) is
bits_kind kind false s is e = absurd (none_is s e)

texts_kind : (kind : ℕ) (a b c d : Bool) (s : Spelling) → kind ≡ 7 → (if a then Some (Texts One) else (if b then Some (Dictionary One) else (if c then Some (Texts Two) else (if d then Some (Dictionary Two) else None)))) ≡ Some s → KindOf kind s
texts_kind kind true b c d s is e = subst (λ (x : Spelling). KindOf kind x) (some_is (Texts One) s e) is
texts_kind kind false true c d s is e = subst (λ (x : Spelling). KindOf kind x) (some_is (Dictionary One) s e) is
texts_kind kind false false true d s is e = subst (λ (x : Spelling). KindOf kind x) (some_is (Texts Two) s e) is
texts_kind kind false false false true s is e = subst (λ (x : Spelling). KindOf kind x) (some_is (Dictionary Two) s e) is
texts_kind kind false false false false s is e = absurd (none_is s e)

integers_kind : (kind : ℕ) (a b : Bool) (s : Spelling) → is_integer_kind kind ≡ true → (if a then Some (Integers One) else (if b then Some (Integers Two) else None)) ≡ Some s → KindOf kind s
integers_kind kind true b s is e = subst (λ (x : Spelling). KindOf kind x) (some_is (Integers One) s e) is
integers_kind kind false true s is e = subst (λ (x : Spelling). KindOf kind x) (some_is (Integers Two) s e) is
integers_kind kind false false s is e = absurd (none_is s e)

by_tests : (kind encoding : ℕ) (zero seven integer : Bool) (s : Spelling) → (kind == 0) ≡ zero → (kind == 7) ≡ seven → is_integer_kind kind ≡ integer
    → (if zero then bits_by encoding else (if seven then texts_by encoding else (if integer then integers_by encoding else None))) ≡ Some s → KindOf kind s
by_tests kind encoding true seven integer s z t i e = bits_kind kind (encoding == 0) s (equal kind 0 z) e
by_tests kind encoding false true integer s z t i e = texts_kind kind (encoding == 0) (encoding == 1) (encoding == 2) (encoding == 3) s (equal kind 7 t) e
by_tests kind encoding false false true s z t i e = integers_kind kind (encoding == 0) (encoding == 2) s i e
by_tests kind encoding false false false s z t i e = absurd (none_is s e)

kind_of : (kind : ℕ) (encoding : Option ℕ) (s : Spelling) → spelling_of kind encoding ≡ Some s → KindOf kind s
kind_of kind None s e = absurd (none_is s e)
kind_of kind (Some encoding) s e = by_tests kind encoding (kind == 0) (kind == 7) (is_integer_kind kind) s refl refl refl e

each : {A : Type 0} (kind : ℕ) (make : A → Value) → ((x : A) → IsOfKind kind (make x)) → (row : Option A) → IsOfKind kind (value_by make row)
each kind make all None = tt
each kind make all (Some x) = all x

all_rows : {A : Type 0} (kind : ℕ) (make : A → Value) (rows : List (Option A)) → ((x : A) → IsOfKind kind (make x)) → All (IsOfKind kind) (map (value_by make) rows)
all_rows kind make rows all = All-map (IsOfKind kind) (value_by make) rows (λ k d h. each kind make all (slice_index_or rows k d))

typed_rows : (kind : ℕ) (s : Spelling) (flags : List Bool) (typed : ColumnValues) → KindOf kind s → IsTyped s typed → All (IsOfKind kind) (column_of flags typed)
typed_rows kind Bits flags (list.Bools entries) is typed = all_rows kind (λ (b : Bool). value.Bool b) (woven flags entries.items) (λ x. is)
typed_rows kind Bits flags (list.Ints entries) is typed = absurd typed
typed_rows kind Bits flags (list.Texts entries) is typed = absurd typed
typed_rows kind Bits flags (list.Chosen entries) is typed = absurd typed
typed_rows kind (Integers version) flags (list.Bools entries) is typed = absurd typed
typed_rows kind (Integers version) flags (list.Ints entries) is typed = all_rows kind (λ n. value.Int n) (woven flags entries.items) (λ x. is)
typed_rows kind (Integers version) flags (list.Texts entries) is typed = absurd typed
typed_rows kind (Integers version) flags (list.Chosen entries) is typed = absurd typed
typed_rows kind (Texts version) flags (list.Bools entries) is typed = absurd typed
typed_rows kind (Texts version) flags (list.Ints entries) is typed = absurd typed
typed_rows kind (Texts version) flags (list.Texts entries) is typed = all_rows kind (λ (t : List ℕ). value.Text t) (woven flags entries) (λ x. is)
typed_rows kind (Texts version) flags (list.Chosen entries) is typed = absurd typed
typed_rows kind (Dictionary version) flags (list.Bools entries) is typed = absurd typed
typed_rows kind (Dictionary version) flags (list.Ints entries) is typed = absurd typed
typed_rows kind (Dictionary version) flags (list.Texts entries) is typed = absurd typed
typed_rows kind (Dictionary version) flags (list.Chosen entries) is typed = all_rows kind (λ (t : List ℕ). value.Text t) (woven flags entries) (λ x. is)

-- the rows of a typed list are of the kind whose spelling it has
pub rows_of_kind : (kind : ℕ) (encoding : Option ℕ) (s : Spelling) (flags : List Bool) (typed : ColumnValues) → spelling_of kind encoding ≡ Some s → IsTyped s typed → All (IsOfKind kind) (column_of flags typed)
rows_of_kind kind encoding s flags typed spelled is = typed_rows kind s flags typed (kind_of kind encoding s spelled) is
