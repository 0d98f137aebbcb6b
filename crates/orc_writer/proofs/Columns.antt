-- The columns of a writer: with a row more, without rows, and with one more that nobody reads.
use Rattle.std.proofs.Common.{◌≡◌, ℕ, zero, suc, ◌+◌, Bool, true, false, List, [], ◌∷◌, ◌++◌, length, map, take, drop, Option, Some, None, All, refl, sym, ap, subst, ◌∙◌, arith, append_assoc, append-nil, length-append}
use Rattle.std.specs.List.{insert}
use Rattle.std.specs.Prelude.{◌==◌, if◌then◌else◌}
use Rattle.std.specs.Option.{is_some}
use Rattle.std.specs.Prelude.{IsTrue}
use Rattle.std.proofs.lemmas.Bool.{eqb-true, false≢true}
use Rattle.std.proofs.lemmas.List.Elements.{All-nil, All-cons, All-head, All-tail, All-append, All-take, All-drop}
use Rattle.orc_values.specs.declared.value.Value.{Value}
use Rattle.orc_columns.specs.declared.spelling.Spelling.{Spelling as Spelled}
use Rattle.orc_columns.specs.declared.spelling.Spelling.TheVariants.{Bits, Integers, Texts, Dictionary}
use Rattle.orc_columns.specs.declared.spelling.Version.TheVariants.{One, Two}
use Rattle.orc_columns.specs.Spelling.{bits_by, texts_by, integers_by, is_integer_kind, spelling_of}
use Rattle.orc_batches.specs.Batch.{Batch, behind}
use Rattle.orc_rows.specs.Given.{no_rows}
use Rattle.tail_writer.specs.declared.file_column.FileColumn.{FileColumn}
use Rattle.table_columns.specs.declared.table_column.Content.{Content}
use Rattle.table_columns.specs.declared.table_column.Content.TheVariants.{Written, Opaque}
use Rattle.table_columns.specs.declared.table_column.TableColumn.{TableColumn}
use Rattle.table_columns.specs.Shapes.{Shape, file_column, encoding_number, RowFits}
use Rattle.table_columns.specs.Tables.{shape_by, shapes_of, rows_with, rows_of, content_with, rest_for, with_row, as_batch, emptied, without_rows}
use Rattle.table_writer.specs.Table.{IsColumnOf}
use Rattle.orc_writer.specs.declared.column_spec.ColumnSpec.{ColumnSpec}
use Rattle.orc_writer.specs.Given.{number_of, IsOfSpec, AreOfSpecs}
use Rattle.orc_writer.specs.Making.{IsMadeBy, IsMadeOf, AreMade}
use Rattle.orc_writer.specs.Ending.{file_columns_of}

-- ---- a row more

shape_with : (column : FileColumn) (content : Content) (row : List Value) → shape_by column (content_with content row) ≡ shape_by column content
shape_with column (Written buffer) [] = refl
shape_with column (Written buffer) (value ∷ row) = refl
shape_with column (Opaque streams) row = refl

pub shapes_row : (columns : List TableColumn) (row : List Value) → shapes_of (with_row columns row) ≡ shapes_of columns
shapes_row [] row = refl
shapes_row (c ∷ columns) row =
    ap (λ (s : Shape). s ∷ shapes_of (with_row columns (rest_for c.content row))) (shape_with c.column c.content row)
    ∙ ap (λ (l : List Shape). shape_by c.column c.content ∷ l) (shapes_row columns (rest_for c.content row))

rows_by : (column : FileColumn) (content : Content) (shapes : List Shape) (batch after : Batch) (row : List Value) → RowFits (shape_by column content ∷ shapes) row
    → (RowFits shapes (rest_for content row) → after ≡ behind batch (as_batch (rest_for content row))) → rows_with (content_with content row) after ≡ behind (rows_with content batch) (as_batch row)
rows_by column (Written buffer) shapes batch after [] fits others = absurd fits
rows_by column (Written buffer) shapes batch after (value ∷ row) fits others = ap (λ (b : Batch). (buffer.rows ++ value ∷ []) ∷ b) (others fits.1)
rows_by column (Opaque streams) shapes batch after row fits others = others fits

pub rows_row : (columns : List TableColumn) (row : List Value) → RowFits (shapes_of columns) row → rows_of (with_row columns row) ≡ behind (rows_of columns) (as_batch row)
rows_row [] [] fits = refl
rows_row [] (value ∷ row) fits = absurd fits
rows_row (c ∷ columns) row fits =
    rows_by c.column c.content (shapes_of columns) (rows_of columns) (rows_of (with_row columns (rest_for c.content row))) row fits (λ f. rows_row columns (rest_for c.content row) f)

column_with : (rows : ℕ) (column : FileColumn) (content : Content) (shapes : List Shape) (row : List Value) → RowFits (shape_by column content ∷ shapes) row
    → IsColumnOf rows (record { column = column; content = content })
    → IsColumnOf (rows + 1) (record { column = column; content = content_with content row }) × RowFits shapes (rest_for content row)
column_with rows column (Written buffer) shapes [] fits of = absurd fits
column_with rows column (Written buffer) shapes (value ∷ row) fits of = (
  record { counted = omega (arith, length-append buffer.rows (value ∷ []), of.counted); spelled = of.spelled; streams = of.streams },
  fits.1,
)
column_with rows column (Opaque streams) shapes row fits of = (record { counted = tt; spelled = of.spelled; streams = of.streams }, fits)

pub columns_row : (rows : ℕ) (columns : List TableColumn) (row : List Value) → RowFits (shapes_of columns) row → All (IsColumnOf rows) columns → All (IsColumnOf (rows + 1)) (with_row columns row)
columns_row rows [] row fits are = All-nil (IsColumnOf (rows + 1))
columns_row rows (c ∷ columns) row fits are =
    let one = column_with rows c.column c.content (shapes_of columns) row fits (All-head (IsColumnOf rows) c columns are) in
    All-cons (IsColumnOf (rows + 1)) (record { column = c.column; content = content_with c.content row }) (with_row columns (rest_for c.content row)) one.0
    (columns_row rows columns (rest_for c.content row) one.1 (All-tail (IsColumnOf rows) c columns are))

-- a row behind the rows that wait, behind those before
batch_fits : (column : FileColumn) (content : Content) (shapes : List Shape) (batch a : Batch) (row : List Value) → RowFits (shape_by column content ∷ shapes) row
    → ((rest : Batch) (left : List Value) → RowFits shapes left → behind (behind rest batch) (as_batch left) ≡ behind rest (behind batch (as_batch left)))
    → behind (behind a (rows_with content batch)) (as_batch row) ≡ behind a (behind (rows_with content batch) (as_batch row))
batch_fits column (Written buffer) shapes batch a [] fits others = absurd fits
batch_fits column (Written buffer) shapes batch [] (value ∷ row) fits others = refl
batch_fits column (Written buffer) shapes batch (x ∷ a) (value ∷ row) fits others =
    ap (λ (l : List Value). l ∷ behind (behind a batch) (as_batch row)) (append_assoc x buffer.rows (value ∷ [])) ∙ ap (λ (b : Batch). (x ++ (buffer.rows ++ value ∷ [])) ∷ b) (others a row fits.1)
batch_fits column (Opaque streams) shapes batch a row fits others = others a row fits

none_fit : (a : Batch) → behind (behind a []) [] ≡ behind a []
none_fit [] = refl
none_fit (x ∷ a) = refl

pub behind_row : (columns : List TableColumn) (a : Batch) (row : List Value) → RowFits (shapes_of columns) row → behind (behind a (rows_of columns)) (as_batch row) ≡ behind a (behind (rows_of columns) (as_batch row))
behind_row [] a [] fits = none_fit a
behind_row [] a (value ∷ row) fits = absurd fits
behind_row (c ∷ columns) a row fits = batch_fits c.column c.content (shapes_of columns) (rows_of columns) a row fits (λ rest left f. behind_row columns rest left f)

-- ---- no rows

shape_none : (column : FileColumn) (content : Content) → shape_by column (emptied content) ≡ shape_by column content
shape_none column (Written buffer) = refl
shape_none column (Opaque streams) = refl

pub shapes_none : (columns : List TableColumn) → shapes_of (without_rows columns) ≡ shapes_of columns
shapes_none [] = refl
shapes_none (c ∷ columns) =
    ap (λ (s : Shape). s ∷ shapes_of (without_rows columns)) (shape_none c.column c.content) ∙ ap (λ (l : List Shape). shape_by c.column c.content ∷ l) (shapes_none columns)

column_none : (rows : ℕ) (column : FileColumn) (content : Content) → IsColumnOf rows (record { column = column; content = content }) → IsColumnOf 0 (record { column = column; content = emptied content })
column_none rows column (Written buffer) of = record { counted = refl; spelled = of.spelled; streams = of.streams }
column_none rows column (Opaque streams) of = record { counted = tt; spelled = of.spelled; streams = of.streams }

pub columns_none : (rows : ℕ) (columns : List TableColumn) → All (IsColumnOf rows) columns → All (IsColumnOf 0) (without_rows columns)
columns_none rows [] are = All-nil (IsColumnOf 0)
columns_none rows (c ∷ columns) are =
    All-cons (IsColumnOf 0) (record { column = c.column; content = emptied c.content }) (without_rows columns) (column_none rows c.column c.content (All-head (IsColumnOf rows) c columns are))
    (columns_none rows columns (All-tail (IsColumnOf rows) c columns are))

-- none behind them changes nothing
pub data AreNone : Batch → Type 0 where
  no_more : AreNone []
  and_none : {batch : Batch} → AreNone batch → AreNone ([] ∷ batch)

none_with : (content : Content) (batch : Batch) → AreNone batch → AreNone (rows_with (emptied content) batch)
none_with (Written buffer) batch none = and_none none
none_with (Opaque streams) batch none = none

pub rows_none : (columns : List TableColumn) → AreNone (rows_of (without_rows columns))
rows_none [] = no_more
rows_none (c ∷ columns) = none_with c.content (rows_of (without_rows columns)) (rows_none columns)

pub behind_none : (batch none : Batch) → AreNone none → behind batch none ≡ batch
behind_none [] none are = refl
behind_none (rows ∷ batch) [] are = refl
behind_none (rows ∷ batch) ((x ∷ xs) ∷ none) are = elim are [ ]
behind_none (rows ∷ batch) ([] ∷ none) (and_none are) = ap (λ (l : List Value). l ∷ behind batch none) (append-nil rows) ∙ ap (λ (b : Batch). rows ∷ b) (behind_none batch none are)

count_none : (rows : List Value) → length rows ≡ 0 → rows ≡ []
count_none [] e = refl
count_none (x ∷ rows) e = absurd (omega (arith, e))

counted_none : (column : FileColumn) (content : Content) (batch : Batch) → IsColumnOf 0 (record { column = column; content = content }) → AreNone batch → AreNone (rows_with content batch)
counted_none column (Written buffer) batch of none = subst (λ (l : List Value). AreNone (l ∷ batch)) (sym (count_none buffer.rows of.counted)) (and_none none)
counted_none column (Opaque streams) batch of none = none

zero_none : (columns : List TableColumn) → All (IsColumnOf 0) columns → AreNone (rows_of columns)
zero_none [] are = no_more
zero_none (c ∷ columns) are = counted_none c.column c.content (rows_of columns) (All-head (IsColumnOf 0) c columns are) (zero_none columns (All-tail (IsColumnOf 0) c columns are))

-- where no row waits
pub waiting_none : (waiting : ℕ) (columns : List TableColumn) (batch : Batch) → waiting ≡ 0 → All (IsColumnOf waiting) columns → behind batch (rows_of columns) ≡ batch
waiting_none waiting columns batch none are =
    behind_none batch (rows_of columns) (zero_none columns (subst (λ (n : ℕ). All (IsColumnOf n) columns) none are))

-- ---- one more that nobody reads

pub shapes_insert : (columns : List TableColumn) (at : ℕ) (c : TableColumn) → shapes_of (insert columns at c) ≡ insert (shapes_of columns) at (shape_by c.column c.content)
shapes_insert [] zero c = refl
shapes_insert [] (suc at) c = refl
shapes_insert (d ∷ columns) zero c = refl
shapes_insert (d ∷ columns) (suc at) c = ap (λ (l : List Shape). shape_by d.column d.content ∷ l) (shapes_insert columns at c)

pub rows_insert : (columns : List TableColumn) (at : ℕ) (c : TableColumn) → ((batch : Batch) → rows_with c.content batch ≡ batch) → rows_of (insert columns at c) ≡ rows_of columns
rows_insert [] zero c skips = skips []
rows_insert [] (suc at) c skips = skips []
rows_insert (d ∷ columns) zero c skips = skips (rows_of (d ∷ columns))
rows_insert (d ∷ columns) (suc at) c skips = ap (λ (b : Batch). rows_with d.content b) (rows_insert columns at c skips)

pub columns_insert : (rows : ℕ) (columns : List TableColumn) (at : ℕ) (c : TableColumn) → All (IsColumnOf rows) columns → IsColumnOf rows c → All (IsColumnOf rows) (insert columns at c)
columns_insert rows columns at c are is =
    All-append (IsColumnOf rows) (take at columns) (c ∷ drop at columns) (All-take (IsColumnOf rows) at columns are) (All-cons (IsColumnOf rows) c (drop at columns) is (All-drop (IsColumnOf rows) at columns are))

-- ---- what a writer begins with

some_same : (x y : Spelled) → Some x ≡ Some y → x ≡ y
some_same x y e = cc

pick : (t : Bool) (e n : ℕ) (x s : Spelled) (other : Option Spelled) → (t ≡ true → e ≡ n) → encoding_number x ≡ n → (other ≡ Some s → encoding_number s ≡ e) → (if t then Some x else other) ≡ Some s
    → encoding_number s ≡ e
pick true e n x s other tells of others is = ap encoding_number (sym (some_same x s is)) ∙ of ∙ sym (tells refl)
pick false e n x s other tells of others is = others is

no_spelling : (e : ℕ) (s : Spelled) → None ≡ Some s → encoding_number s ≡ e
no_spelling e s is = absurd (let known = is in cc)

bits_back : (e : ℕ) (s : Spelled) → bits_by e ≡ Some s → encoding_number s ≡ e
bits_back e s is = pick (e == 0) e 0 Bits s None (eqb-true e 0) refl (no_spelling e s) is

integers_back : (e : ℕ) (s : Spelled) → integers_by e ≡ Some s → encoding_number s ≡ e
integers_back e s is =
    pick (e == 0) e 0 (Integers One) s (if e == 2 then Some (Integers Two) else None) (eqb-true e 0) refl (λ h. pick (e == 2) e 2 (Integers Two) s None (eqb-true e 2) refl (no_spelling e s) h) is

texts_back : (e : ℕ) (s : Spelled) → texts_by e ≡ Some s → encoding_number s ≡ e
texts_back e s is =
    pick (e == 0) e 0 (Texts One) s (if e == 1 then Some (Dictionary One) else (if e == 2 then Some (Texts Two) else (if e == 3 then Some (Dictionary Two) else None))) (eqb-true e 0) refl
    (λ h. pick (e == 1) e 1 (Dictionary One) s (if e == 2 then Some (Texts Two) else (if e == 3 then Some (Dictionary Two) else None)) (eqb-true e 1) refl
    (λ i. pick (e == 2) e 2 (Texts Two) s (if e == 3 then Some (Dictionary Two) else None) (eqb-true e 2) refl (λ j. pick (e == 3) e 3 (Dictionary Two) s None (eqb-true e 3) refl (no_spelling e s) j) i) h) is

by_kind : (a b c : Bool) (e : ℕ) (s : Spelled) → (if a then bits_by e else (if b then texts_by e else (if c then integers_by e else None))) ≡ Some s → encoding_number s ≡ e
by_kind true b c e s is = bits_back e s is
by_kind false true c e s is = texts_back e s is
by_kind false false true e s is = integers_back e s is
by_kind false false false e s is = no_spelling e s is

number_back : (kind e : ℕ) (s : Spelled) → spelling_of kind (Some e) ≡ Some s → encoding_number s ≡ e
number_back kind e s is = by_kind (kind == 0) (kind == 7) (is_integer_kind kind) e s is

column_made : (spec : ColumnSpec) (column : FileColumn) (content : Content) → column.kind ≡ spec.kind → column.children.items ≡ [] → IsMadeBy spec content
    → IsColumnOf 0 (record { column = column; content = content })
column_made spec column (Written buffer) kind children is = record {
  counted = ap length is.1;
  spelled = (
    ap (λ (n : ℕ). spelling_of column.kind (Some n)) (number_back spec.kind (number_of spec.spelling) buffer.spelling is.0) ∙ ap (λ (k : ℕ). spelling_of k (Some (number_of spec.spelling))) kind ∙ is.0,
    children,
  );
  streams = tt;
}
column_made spec column (Opaque streams) kind children is = absurd is

pub columns_made : (specs : List ColumnSpec) (columns : List TableColumn) → AreMade specs columns → All (IsColumnOf 0) columns
columns_made [] [] are = All-nil (IsColumnOf 0)
columns_made [] (c ∷ columns) are = absurd are
columns_made (spec ∷ specs) [] are = absurd are
columns_made (spec ∷ specs) (c ∷ columns) are =
    All-cons (IsColumnOf 0) c columns (column_made spec c.column c.content are.0.kind are.0.children are.0.content) (columns_made specs columns are.1)

shape_made : (spec : ColumnSpec) (column : FileColumn) (content : Content) → column.name ≡ spec.name → column.kind ≡ spec.kind → column.children.items ≡ [] → IsMadeBy spec content
    → IsOfSpec spec (shape_by column content)
shape_made spec column (Written buffer) name kind children is =
    (name, kind, children, is.0, number_back spec.kind (number_of spec.spelling) buffer.spelling is.0)
shape_made spec column (Opaque streams) name kind children is = absurd is

pub shapes_made : (specs : List ColumnSpec) (columns : List TableColumn) → AreMade specs columns → AreOfSpecs specs (shapes_of columns)
shapes_made [] [] are = tt
shapes_made [] (c ∷ columns) are = absurd are
shapes_made (spec ∷ specs) [] are = absurd are
shapes_made (spec ∷ specs) (c ∷ columns) are =
    (shape_made spec c.column c.content are.0.name are.0.kind are.0.children are.0.content, shapes_made specs columns are.1)

rows_by_made : (spec : ColumnSpec) (content : Content) (batch none : Batch) → IsMadeBy spec content → batch ≡ none → rows_with content batch ≡ [] ∷ none
rows_by_made spec (Written buffer) batch none is same = ap (λ (l : List Value). l ∷ batch) is.1 ∙ ap (λ (b : Batch). [] ∷ b) same
rows_by_made spec (Opaque streams) batch none is same = absurd is

pub rows_made : (specs : List ColumnSpec) (columns : List TableColumn) → AreMade specs columns → rows_of columns ≡ no_rows specs
rows_made [] [] are = refl
rows_made [] (c ∷ columns) are = absurd are
rows_made (spec ∷ specs) [] are = absurd are
rows_made (spec ∷ specs) (c ∷ columns) are = rows_by_made spec c.content (rows_of columns) (no_rows specs) are.0.content (rows_made specs columns are.1)

pub none_behind : {A : Type 0} (xs : List A) → behind (no_rows xs) (no_rows xs) ≡ no_rows xs
none_behind [] = refl
none_behind (x ∷ xs) = ap (λ (b : Batch). [] ∷ b) (none_behind xs)

pub all_none : {A : Type 0} (xs : List A) → All (λ (column : List Value). column ≡ []) (no_rows xs)
all_none [] = All-nil (λ (column : List Value). column ≡ [])
all_none (x ∷ xs) = All-cons (λ (column : List Value). column ≡ []) [] (no_rows xs) refl (all_none xs)

pub made_more : (specs : List ColumnSpec) (columns : List TableColumn) (spec : ColumnSpec) (c : TableColumn) → AreMade specs columns → IsMadeOf spec c → AreMade (specs ++ spec ∷ []) (columns ++ c ∷ [])
made_more [] [] spec c are is = (is, tt)
made_more [] (d ∷ columns) spec c are is = absurd are
made_more (s ∷ specs) [] spec c are is = absurd are
made_more (s ∷ specs) (d ∷ columns) spec c are is = (are.0, made_more specs columns spec c are.1 is)

pub shapes_map : (columns : List TableColumn) → map file_column (shapes_of columns) ≡ file_columns_of columns
shapes_map [] = refl
shapes_map (c ∷ columns) = ap (λ (f : FileColumn). f ∷ map file_column (shapes_of columns)) (same_column c.column c.content) ∙ ap (λ (l : List FileColumn). c.column ∷ l) (shapes_map columns)
  where
    same_column : (column : FileColumn) (content : Content) → file_column (shape_by column content) ≡ column
    same_column column (Written buffer) = refl
    same_column column (Opaque streams) = refl

-- ---- whether a kind has its spelling

pub possible : (o p : Option Spelled) (r : Bool) → r ≡ is_some o → o ≡ p → (IsTrue r → (s : Spelled) × (p ≡ Some s)) × (((s : Spelled) × (p ≡ Some s)) → IsTrue r)
possible None p r answers is = (λ t. absurd (false≢true (sym answers ∙ t)), λ of. absurd (let known = is ∙ of.1 in cc))
possible (Some s) p r answers is = (λ t. (s, sym is), λ of. answers)
