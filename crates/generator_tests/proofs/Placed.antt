-- Columns that nobody reads, between those that are written.
use Rattle.std.proofs.Common.{◌≡◌, ℕ, zero, suc, ◌+◌, List, [], ◌∷◌, length, All, Some, codes, refl, sym, ap, subst, ◌∙◌}
use Rattle.std.proofs.lemmas.List.Elements.{All-cons, All-nil}
use Rattle.std.proofs.lemmas.Option.{same_Some}
use Rattle.orc_values.specs.declared.value.Value.{Value}
use Rattle.orc_columns.specs.declared.spelling.Spelling.{Spelling}
use Rattle.orc_columns.specs.declared.spelling.Spelling.TheVariants.{Bits, Integers, Dictionary}
use Rattle.orc_columns.specs.declared.spelling.Version.TheVariants.{Two}
use Rattle.orc_columns.specs.Spelling.{spelling_of}
use Rattle.tail_writer.specs.declared.file_column.FileColumn.{FileColumn}
use Rattle.column_writer.specs.Buffered.{MayStand}
use Rattle.table_columns.specs.declared.table_column.OpaqueStream.{OpaqueStream}
use Rattle.table_columns.specs.Shapes.{Shape, written, opaque, RowFits}
use Rattle.orc_writer.specs.declared.column_spec.ColumnSpec.{ColumnSpec}
use Rattle.orc_writer.specs.declared.column_spec.Spelling.TheVariants.{Direct, DirectV2, DictionaryV2}
use Rattle.orc_writer.specs.Given.{AreOfSpecs, IsSpec, number_of, count_written, placed_before}
use Rattle.generator_tests.specs.Web.{IsWeb, spec_of, web_columns}

-- ---- a column more

count-placed : (place : ℕ) (c : FileColumn) (st : List OpaqueStream) (s : List Shape)
    → count_written (placed_before place (opaque c st) s) ≡ count_written s
count-placed place c st [] = refl
count-placed place c st (opaque d su ∷ s) = count-placed place c st s
count-placed zero c st (written d sp ∷ s) = refl
count-placed (suc place) c st (written d sp ∷ s) = ap (λ (n : ℕ). 1 + n) (count-placed place c st s)

fits-placed : (place : ℕ) (c : FileColumn) (st : List OpaqueStream) (s : List Shape) (row : List Value) → RowFits s row
    → RowFits (placed_before place (opaque c st) s) row
fits-placed place c st [] row h = h
fits-placed place c st (opaque d su ∷ s) row h = fits-placed place c st s row h
fits-placed zero c st (written d sp ∷ s) row h = h
fits-placed (suc place) c st (written d sp ∷ s) [] h = absurd h
fits-placed (suc place) c st (written d sp ∷ s) (v ∷ row) h = (h.0, fits-placed place c st s row h.1)

pub web_placed : (place : ℕ) (c : FileColumn) (st : List OpaqueStream) (s : List Shape) → IsWeb s → IsWeb (placed_before place (opaque c st) s)
web_placed place c st s is = record {
  count = count-placed place c st s ∙ is.count;
  takes = λ url ms hit a b d. fits-placed place c st s (url ∷ ms ∷ hit ∷ []) (is.takes url ms hit a b d);
}

-- ---- the columns

count-next : (c : ColumnSpec) (columns : List ColumnSpec) (s : List Shape) (n : ℕ) → AreOfSpecs (c ∷ columns) s
    → ((others : List Shape) → AreOfSpecs columns others → count_written others ≡ n) → count_written s ≡ 1 + n
count-next c columns [] n h more = absurd h
count-next c columns (written d sp ∷ s) n h more = ap (λ (m : ℕ). 1 + m) (more s h.1)
count-next c columns (opaque d su ∷ s) n h more = absurd h.0

count-none : (s : List Shape) → AreOfSpecs [] s → count_written s ≡ 0
count-none [] h = refl
count-none (shape ∷ s) h = absurd h

stands : (spelling other : Spelling) (v : Value) → Some spelling ≡ Some other → MayStand spelling v → MayStand other v
stands spelling other v e is = subst (λ (s : Spelling). MayStand s v) (same_Some spelling other e) is

fits-next : (c : ColumnSpec) (columns : List ColumnSpec) (s : List Shape) (v : Value) (row : List Value) (known : Spelling)
    → spelling_of c.kind (Some (number_of c.spelling)) ≡ Some known → MayStand known v → AreOfSpecs (c ∷ columns) s
    → ((others : List Shape) → AreOfSpecs columns others → RowFits others row) → RowFits s (v ∷ row)
fits-next c columns [] v row known e is h more = absurd h
fits-next c columns (written column spelling ∷ s) v row known e is h more = (stands known spelling v (sym e ∙ h.0.3) is, more s h.1)
fits-next c columns (opaque column streams ∷ s) v row known e is h more = absurd h.0

fits-none : (s : List Shape) → AreOfSpecs [] s → RowFits s []
fits-none [] h = tt
fits-none (shape ∷ s) h = absurd h

abbrev from_hit : List ColumnSpec
from_hit = spec_of (codes "hit") 0 Direct ∷ []

abbrev from_ms : List ColumnSpec
from_ms = spec_of (codes "ms") 3 DirectV2 ∷ from_hit

web-of : (s : List Shape) → AreOfSpecs web_columns s → IsWeb s
web-of s h = record {
  count = count-next (spec_of (codes "url") 7 DictionaryV2) from_ms s 2 h (λ s h. count-next (spec_of (codes "ms") 3 DirectV2) from_hit s 1 h
      (λ s h. count-next (spec_of (codes "hit") 0 Direct) [] s 0 h count-none));
  takes = λ url ms hit a b d. fits-next (spec_of (codes "url") 7 DictionaryV2) from_ms s url (ms ∷ hit ∷ []) (Dictionary Two) refl a h
      (λ s h. fits-next (spec_of (codes "ms") 3 DirectV2) from_hit s ms (hit ∷ []) (Integers Two) refl b h
      (λ s h. fits-next (spec_of (codes "hit") 0 Direct) [] s hit [] Bits refl d h fits-none));
}

pub web_is : (columns : List ColumnSpec) (s : List Shape) → columns ≡ web_columns → AreOfSpecs columns s → IsWeb s
web_is columns s e h = web-of s (subst (λ (c : List ColumnSpec). AreOfSpecs c s) e h)

is-spec : (c : ColumnSpec) (spelling : Spelling) → spelling_of c.kind (Some (number_of c.spelling)) ≡ Some spelling → IsSpec c
is-spec c spelling e = (spelling, e)

pub specs_are : (columns : List ColumnSpec) → columns ≡ web_columns → All IsSpec columns
specs_are columns e = subst (λ (c : List ColumnSpec). All IsSpec c) (sym e)
    (All-cons IsSpec (spec_of (codes "url") 7 DictionaryV2) from_ms (is-spec (spec_of (codes "url") 7 DictionaryV2) (Dictionary Two) refl)
    (All-cons IsSpec (spec_of (codes "ms") 3 DirectV2) from_hit (is-spec (spec_of (codes "ms") 3 DirectV2) (Integers Two) refl)
    (All-cons IsSpec (spec_of (codes "hit") 0 Direct) [] (is-spec (spec_of (codes "hit") 0 Direct) Bits refl) (All-nil IsSpec))))
