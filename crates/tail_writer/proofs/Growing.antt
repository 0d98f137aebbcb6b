-- The list of types, the numbers and the names while they grow by a column.
use Rattle.std.proofs.Common.{◌≡◌, ℕ, zero, suc, ◌+◌, ◌<◌, List, [], ◌∷◌, ◌++◌, length, map, drop, get_or, Bor, refl, ap, sym, subst, ◌∙◌, append_assoc, length-append, arith}
use Rattle.std.proofs.lemmas.List.{map-append, length-map, drop_more}
use Rattle.std.specs.List.{range_with_len}
use Rattle.orc_tail.specs.Messages.{TypeMessage}
use Rattle.footer_writer.specs.declared.file_type.FileType.{FileType}
use Rattle.footer_writer.specs.Views.{file_type_view}
use Rattle.tail_writer.specs.declared.file_column.FileColumn.{FileColumn}
use Rattle.tail_writer.specs.Columns.{leaf, column_types, next_number, types_from, numbers_from}
use Rattle.tail_writer.proofs.Numbers.{column_len}

range_suc : (a n m : ℕ) → m ≡ a + n → range_with_len a (suc n) ≡ range_with_len a n ++ m ∷ []
range_suc a zero m is =
    let same : a ≡ m = omega (arith, is) in
    ap (λ (k : ℕ). k ∷ []) same
range_suc a (suc n) m is =
    let next : m ≡ (a + 1) + n = omega (arith, is) in
    ap (λ (xs : List ℕ). a ∷ xs) (range_suc (a + 1) n m next)

-- one number more
pub range_more : (a n : ℕ) → range_with_len a (n + 1) ≡ range_with_len a n ++ (a + n) ∷ []
range_more a n =
    let one : n + 1 ≡ suc n = omega arith in
    ap (λ (k : ℕ). range_with_len a k) one ∙ range_suc a n (a + n) refl

abbrev type_with : ℕ → List ℕ → List (List ℕ) → TypeMessage
type_with kind subtypes names = record { kind = kind; subtypes = subtypes; names = names }

same_type : (k l : ℕ) (s t : List ℕ) (names none : List (List ℕ)) → k ≡ l → s ≡ t → names ≡ none → type_with k s names ≡ type_with l t none
same_type k l s t names none kinds subtypes named = rw (kinds, subtypes, named) refl

-- a column's types were pushed
pub column_pushed : (types pushed all : List FileType) (item : FileType) (column : FileColumn) (kinds : List ℕ) (first count : ℕ)
    → map file_type_view all ≡ map file_type_view pushed ++ map leaf kinds → kinds ≡ column.children.items → pushed ≡ types ++ item ∷ [] → item.kind ≡ column.kind
    → item.subtypes.items ≡ range_with_len first count → first ≡ length types + 2 → count ≡ length column.children.items → item.names.items ≡ []
    → map file_type_view all ≡ map file_type_view types ++ column_types (length types + 1) column
column_pushed types pushed all item column kinds first count all_are kinds_are pushed_are kind_is subtypes_are first_is count_is no_names =
    let begins : first ≡ (length types + 1) + 1 = omega (arith, first_is) in
    let numbers : item.subtypes.items ≡ range_with_len ((length types + 1) + 1) (length column.children.items) =
    subtypes_are ∙ ap (λ (n : ℕ). range_with_len n count) begins ∙ ap (λ (n : ℕ). range_with_len ((length types + 1) + 1) n) count_is in
    let none : map (λ (name : Bor (List ℕ)). name.now) item.names.items ≡ [] = ap (λ (names : List (Bor (List ℕ))). map (λ (name : Bor (List ℕ)). name.now) names) no_names in
    let seen : file_type_view item ≡ type_with column.kind (range_with_len ((length types + 1) + 1) (length column.children.items)) [] =
    same_type item.kind column.kind item.subtypes.items _ (map (λ (name : Bor (List ℕ)). name.now) item.names.items) [] kind_is numbers none in
    let front : map file_type_view pushed ≡ map file_type_view types ++ file_type_view item ∷ [] =
    ap (λ (ts : List FileType). map file_type_view ts) pushed_are ∙ map-append file_type_view types (item ∷ []) in
    all_are ∙ ap (λ (ts : List TypeMessage). ts ++ map leaf kinds) front ∙ append_assoc (map file_type_view types) (file_type_view item ∷ []) (map leaf kinds)
    ∙ ap (λ (t : TypeMessage). map file_type_view types ++ t ∷ map leaf kinds) seen
    ∙ ap (λ (ks : List ℕ). map file_type_view types ++ type_with column.kind (range_with_len ((length types + 1) + 1) (length column.children.items)) [] ∷ map leaf ks) kinds_are

-- the columns that are left
pub left_is : (columns : List FileColumn) (i : ℕ) (column : FileColumn) → column ≡ get_or columns i column → i < length columns → drop i columns ≡ column ∷ drop (i + 1) columns
left_is columns i column is below = drop_more columns i column below ∙ ap (λ (c : FileColumn). c ∷ drop (i + 1) columns) (sym is)

-- the number of the next column
pub next_is : (before after : List FileType) (column : FileColumn) → map file_type_view after ≡ map file_type_view before ++ column_types (length before + 1) column
    → length after + 1 ≡ next_number (length before + 1) column
next_is before after column same =
    omega (
      arith,
      ap length same,
      length-map after file_type_view,
      length-map before file_type_view,
      length-append (map file_type_view before) (column_types (length before + 1) column),
      column_len (length before + 1) column,
    )

pub numbered_more : (numbers pushed : List ℕ) (value here next : ℕ) (column : FileColumn) (left rest columns : List FileColumn) → left ≡ column ∷ rest → pushed ≡ numbers ++ value ∷ []
    → value ≡ here → next ≡ next_number here column → numbers ++ numbers_from here left ≡ numbers_from 1 columns → pushed ++ numbers_from next rest ≡ numbers_from 1 columns
numbered_more numbers pushed value here next column left rest columns left_is pushed_is value_is next_is so_far =
    let known : numbers ++ numbers_from here (column ∷ rest) ≡ numbers_from 1 columns = subst (λ (l : List FileColumn). numbers ++ numbers_from here l ≡ numbers_from 1 columns) left_is so_far in
    ap (λ (xs : List ℕ). xs ++ numbers_from next rest) (pushed_is ∙ ap (λ (n : ℕ). numbers ++ n ∷ []) value_is)
    ∙ append_assoc numbers (here ∷ []) (numbers_from next rest) ∙ ap (λ (n : ℕ). numbers ++ here ∷ numbers_from n rest) next_is ∙ known

pub typed_more : (before after : List TypeMessage) (here next : ℕ) (column : FileColumn) (left rest columns : List FileColumn) → left ≡ column ∷ rest → after ≡ before ++ column_types here column
    → next ≡ next_number here column → before ++ types_from here left ≡ types_from 1 columns → after ++ types_from next rest ≡ types_from 1 columns
typed_more before after here next column left rest columns left_is after_is next_is so_far =
    let known : before ++ types_from here (column ∷ rest) ≡ types_from 1 columns = subst (λ (l : List FileColumn). before ++ types_from here l ≡ types_from 1 columns) left_is so_far in
    ap (λ (ts : List TypeMessage). ts ++ types_from next rest) after_is ∙ append_assoc before (column_types here column) (types_from next rest)
    ∙ ap (λ (n : ℕ). before ++ (column_types here column ++ types_from n rest)) next_is ∙ known

abbrev names_of : List FileColumn → List (List ℕ)
names_of columns = map (λ c. c.name) columns

abbrev lent_names : List (Bor (List ℕ)) → List (List ℕ)
lent_names names = map (λ name. name.now) names

pub named_more : (names pushed : List (Bor (List ℕ))) (lent : Bor (List ℕ)) (column : FileColumn) (left rest columns : List FileColumn) → left ≡ column ∷ rest → pushed ≡ names ++ lent ∷ []
    → lent.now ≡ column.name → lent_names names ++ names_of left ≡ names_of columns → lent_names pushed ++ names_of rest ≡ names_of columns
named_more names pushed lent column left rest columns left_is pushed_is lent_is so_far =
    let known : lent_names names ++ names_of (column ∷ rest) ≡ names_of columns = subst (λ (l : List FileColumn). lent_names names ++ names_of l ≡ names_of columns) left_is so_far in
    ap (λ (ns : List (Bor (List ℕ))). lent_names ns ++ names_of rest) pushed_is
    ∙ ap (λ (ns : List (List ℕ)). ns ++ names_of rest) (map-append (λ (name : Bor (List ℕ)). name.now) names (lent ∷ []))
    ∙ append_assoc (lent_names names) (lent.now ∷ []) (names_of rest) ∙ ap (λ (n : List ℕ). lent_names names ++ n ∷ names_of rest) lent_is ∙ known
