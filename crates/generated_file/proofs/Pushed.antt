-- A row more of a generated file.
use Rattle.std.proofs.Common.{◌≡◌, ℕ, ◌+◌, ◌==◌, ◌%◌, Bool, true, false, List, [], ◌∷◌, ◌++◌, map, Some, codes, refl, sym, ap, subst, ◌∙◌, if◌then◌else◌, All, arith}
use Rattle.std.proofs.lemmas.List.Elements.{All-cons, All-nil}
use Rattle.std.specs.List.{range_with_len}
use Rattle.std.proofs.lemmas.List.FromFn.{map-range_with_len_more}
use Rattle.std.proofs.lemmas.Option.{same_Some}
use Rattle.orc_values.specs.declared.value.Value.{Value}
use Rattle.orc_values.specs.declared.value.Value.TheVariants as value
use Rattle.orc_columns.specs.declared.spelling.Spelling.{Spelling}
use Rattle.orc_columns.specs.declared.spelling.Spelling.TheVariants.{Bits, Integers, Texts, Dictionary}
use Rattle.orc_columns.specs.Spelling.{spelling_of}
use Rattle.orc_columns.specs.declared.spelling.Version.TheVariants.{One, Two}
use Rattle.orc_rows.specs.Rows.{Rows}
use Rattle.column_writer.specs.Buffered.{MayStand}
use Rattle.table_columns.specs.Shapes.{Shape, written, opaque, RowFits}
use Rattle.orc_writer.specs.declared.column_spec.ColumnSpec.{ColumnSpec}
use Rattle.orc_writer.specs.declared.column_spec.Spelling.TheVariants.{Direct, DirectV2, DictionaryV2}
use Rattle.orc_writer.specs.Given.{AreOfSpecs, IsSpec, number_of, and_row}
use Rattle.orc_writer.specs.Writing.{Writing, Holds, Pushes, shapes}
use Rattle.generated_rows.specs.Rows.{row_in, id_in, even_in, city_in, note_in, qty_in}
use Rattle.generated_file.specs.Columns.{generated_columns, rows_of, spec_of}
use Rattle.generated_file.specs.Making.{HasFirst}

-- ---- the columns, from each on

abbrev pub from_qty : List ColumnSpec
from_qty = spec_of (codes "qty") 3 Direct ∷ []

abbrev pub from_note : List ColumnSpec
from_note = spec_of (codes "note") 7 DirectV2 ∷ from_qty

abbrev pub from_city : List ColumnSpec
from_city = spec_of (codes "city") 7 DictionaryV2 ∷ from_note

abbrev pub from_even : List ColumnSpec
from_even = spec_of (codes "even") 0 Direct ∷ from_city

-- ---- a row fits

qty-stands : (t : Bool) (z : _) → MayStand (Integers One) (if t then value.Null else value.Int z)
qty-stands true z = tt
qty-stands false z = tt

stands : (spelling other : Spelling) (v : Value) → Some spelling ≡ Some other → MayStand spelling v → MayStand other v
stands spelling other v e is = subst (λ (s : Spelling). MayStand s v) (same_Some spelling other e) is

-- a column, and those behind it
fits-next : (c : ColumnSpec) (columns : List ColumnSpec) (s : List Shape) (v : Value) (row : List Value) (known : Spelling)
    → spelling_of c.kind (Some (number_of c.spelling)) ≡ Some known → MayStand known v → AreOfSpecs (c ∷ columns) s
    → ((others : List Shape) → AreOfSpecs columns others → RowFits others row) → RowFits s (v ∷ row)
fits-next c columns [] v row known e is h more = absurd h
fits-next c columns (written column spelling ∷ s) v row known e is h more = (stands known spelling v (sym e ∙ h.0.3) is, more s h.1)
fits-next c columns (opaque column streams ∷ s) v row known e is h more = absurd h.0

fits-none : (s : List Shape) → AreOfSpecs [] s → RowFits s []
fits-none [] h = tt
fits-none (shape ∷ s) h = absurd h

pub row_fits : (s : List Shape) (number index : ℕ) → AreOfSpecs generated_columns s → RowFits s (row_in number index)
row_fits s number index h =
    fits-next (spec_of (codes "id") 4 DirectV2) from_even s (id_in number index) (even_in index ∷ city_in number index ∷ note_in index ∷ qty_in number index ∷ []) (Integers Two) refl tt h
    (λ s h. fits-next (spec_of (codes "even") 0 Direct) from_city s (even_in index) (city_in number index ∷ note_in index ∷ qty_in number index ∷ []) Bits refl tt h
    (λ s h. fits-next (spec_of (codes "city") 7 DictionaryV2) from_note s (city_in number index) (note_in index ∷ qty_in number index ∷ []) (Dictionary Two) refl tt h
    (λ s h. fits-next (spec_of (codes "note") 7 DirectV2) from_qty s (note_in index) (qty_in number index ∷ []) (Texts Two) refl tt h
    (λ s h. fits-next (spec_of (codes "qty") 3 Direct) [] s (qty_in number index) [] (Integers One) refl (qty-stands (index % 10 == 9) _) h fits-none))))

-- ---- the columns

is-spec : (c : ColumnSpec) (spelling : Spelling) → spelling_of c.kind (Some (number_of c.spelling)) ≡ Some spelling → IsSpec c
is-spec c spelling e = (spelling, e)

pub specs_are : (columns : List ColumnSpec) → columns ≡ generated_columns → All IsSpec columns
specs_are columns e = subst (λ (c : List ColumnSpec). All IsSpec c) (sym e)
    (All-cons IsSpec (spec_of (codes "id") 4 DirectV2) from_even (is-spec (spec_of (codes "id") 4 DirectV2) (Integers Two) refl)
    (All-cons IsSpec (spec_of (codes "even") 0 Direct) from_city (is-spec (spec_of (codes "even") 0 Direct) Bits refl)
    (All-cons IsSpec (spec_of (codes "city") 7 DictionaryV2) from_note (is-spec (spec_of (codes "city") 7 DictionaryV2) (Dictionary Two) refl)
    (All-cons IsSpec (spec_of (codes "note") 7 DirectV2) from_qty (is-spec (spec_of (codes "note") 7 DirectV2) (Texts Two) refl)
    (All-cons IsSpec (spec_of (codes "qty") 3 Direct) [] (is-spec (spec_of (codes "qty") 3 Direct) (Integers One) refl) (All-nil IsSpec))))))

-- ---- the rows so far, and one more

one-more : (number rows : ℕ) → and_row (rows_of number rows) (row_in number rows) ≡ rows_of number (rows + 1)
one-more number rows = rw (
  map-range_with_len_more (id_in number) 0 rows rows (omega arith),
  map-range_with_len_more even_in 0 rows rows (omega arith),
  map-range_with_len_more (city_in number) 0 rows rows (omega arith),
  map-range_with_len_more note_in 0 rows rows (omega arith),
  map-range_with_len_more (qty_in number) 0 rows rows (omega arith),
) refl

pub first_pushed : (number rows : ℕ) (before after : Writing) → HasFirst number rows before → Pushes before (row_in number rows) after
    → HasFirst number (rows + 1) after
first_pushed number rows before after has p = record {
  columns_are = subst (λ (s : List Shape). AreOfSpecs generated_columns s) (sym p.shapes_are) has.columns_are;
  stripes_of = p.stripe_rows_are ∙ has.stripes_of;
  holds = subst (λ (r : Rows). Holds after r) (one-more number rows) (p.holds (rows_of number rows) has.holds);
}
