-- Numbered types: the children of the root are the columns.
use Rattle.std.proofs.Common.{◌≡◌, ℕ, suc, ◌+◌, ◌<◌, ◌≤◌, true, false, List, [], ◌∷◌, ◌++◌, length, map, Ok, refl, ap, sym, ◌∙◌, append_assoc, length-append, eq-eqb, arith}
use Rattle.std.proofs.Math.Seq.{get_or-append_seam}
use Rattle.std.proofs.lemmas.Bool.{lt-ltb, ne_eqb}
use Rattle.std.proofs.lemmas.List.{map-append, length-map}
use Rattle.std.specs.List.{list_all, range_with_len}
use Rattle.std.specs.Prelude.{slice_index, ◌==◌}
use Rattle.orc_tail.specs.declared.columns.TopColumn.{TopColumn}
use Rattle.orc_tail.specs.Messages.{TypeMessage}
use Rattle.orc_tail.specs.Tail.{is_child, kind_of, children, top_columns}
use Rattle.tail_writer.specs.declared.file_column.FileColumn.{FileColumn}
use Rattle.tail_writer.specs.Columns.{leaf, column_types, next_number, types_from, numbers_from, types_of, top_columns_from}

-- how many types a column has
pub column_len : (number : ℕ) (column : FileColumn) → length (column_types number column) ≡ 1 + length column.children.items
column_len number column = omega (arith, length-map column.children.items leaf)

abbrev kind : TypeMessage → ℕ
kind t = t.kind

kind_is : (front : List TypeMessage) (t : TypeMessage) (behind : List TypeMessage) (number : ℕ) → length front ≡ number → kind_of (front ++ t ∷ behind) number ≡ t.kind
kind_is front t behind number at =
    let counted : number ≡ length (map kind front) = sym (length-map front kind ∙ at) in
    ap (λ (ks : List ℕ). slice_index ks number) (map-append kind front (t ∷ behind)) ∙ ap (λ (n : ℕ). slice_index (map kind front ++ t.kind ∷ map kind behind) n) counted
    ∙ get_or-append_seam (map kind front) t.kind (map kind behind) 0

abbrev top_of : ℕ → ℕ → FileColumn → TopColumn
top_of number k column = record { number = number; kind = k; name = column.name }

same_columns : (number k l : ℕ) (column : FileColumn) (others rest : List TopColumn) → k ≡ l → others ≡ rest
    → top_of number k column ∷ others ≡ top_of number l column ∷ rest
same_columns number k l column others rest same both = rw (same, both) refl

same_children : (front types : List TypeMessage) (number : ℕ) (columns : List FileColumn) → length front ≡ number → types ≡ front ++ types_from number columns
    → children types (numbers_from number columns) (map (λ c. c.name) columns) ≡ top_columns_from number columns
same_children front types number [] at whole = refl
same_children front types number (column ∷ columns) at whole =
    let first : TypeMessage = record { kind = column.kind; subtypes = range_with_len (number + 1) (length column.children.items); names = [] } in
    let others = map leaf column.children.items ++ types_from (next_number number column) columns in
    let kind_same : kind_of types number ≡ column.kind = ap (λ (ts : List TypeMessage). kind_of ts number) whole ∙ kind_is front first others number at in
    let next : length (front ++ column_types number column) ≡ next_number number column =
    omega (arith, length-append front (column_types number column), column_len number column, at) in
    let again : types ≡ (front ++ column_types number column) ++ types_from (next_number number column) columns =
    whole ∙ sym (append_assoc front (column_types number column) (types_from (next_number number column) columns)) in
    same_columns number (kind_of types number) column.kind column _ _ kind_same (same_children (front ++ column_types number column) types (next_number number column) columns next again)

not_zero : (n : ℕ) → 1 ≤ n → (n == 0) ≡ false
not_zero n some = ne_eqb n 0 (λ same. omega (arith, same, some))

are_children : (count number : ℕ) (columns : List FileColumn) → 1 ≤ number → number + length (types_from number columns) ≤ count → list_all (is_child count) (numbers_from number columns) ≡ true
are_children count number [] some fits = refl
are_children count number (column ∷ columns) some fits =
    let rest = types_from (next_number number column) columns in
    let len : length (column_types number column ++ rest) ≡ (1 + length column.children.items) + length rest =
    length-append (column_types number column) rest ∙ ap (λ (n : ℕ). n + length rest) (column_len number column) in
    let below : number < count = omega (arith, len, fits) in
    let more : next_number number column + length rest ≤ count = omega (arith, len, fits) in
    rw (not_zero number some, lt-ltb number count below, are_children count (next_number number column) columns (omega arith) more) refl

as_many : (number : ℕ) (columns : List FileColumn) → length (numbers_from number columns) ≡ length (map (λ c. c.name) columns)
as_many number [] = refl
as_many number (column ∷ columns) = ap suc (as_many (next_number number column) columns)

pub columns_read : (columns : List FileColumn) → top_columns (types_of columns) ≡ Ok (top_columns_from 1 columns)
unfolding top_columns
columns_read columns =
    let root : TypeMessage = record { kind = 12; subtypes = numbers_from 1 columns; names = map (λ c. c.name) columns } in
    rw (
      eq-eqb (length (numbers_from 1 columns)) (length (map (λ c. c.name) columns)) (as_many 1 columns),
      are_children (length (types_of columns)) 1 columns (omega arith) (omega arith),
      same_children (root ∷ []) (types_of columns) 1 columns refl refl,
    ) refl
