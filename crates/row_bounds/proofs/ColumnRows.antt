-- A column's rows, by the stream that each of them needs something of.
use Rattle.std.proofs.Common.{◌≡◌, ℕ, zero, suc, ◌*◌, ◌≤◌, Bool, true, false, List, [], ◌∷◌, length, map, replicate, Some, ℤ, pos, refl, ap, ◌∙◌, subst, arith}
use Rattle.std.specs.Prelude.{Option}
use Rattle.std.specs.Int.{w64, cast_unsigned}
use Rattle.std.proofs.lemmas.List.{length-map}
use Rattle.orc_rle.specs.BitRun.{BitRun}
use Rattle.orc_values.specs.declared.value.Value.{Value}
use Rattle.orc_values.specs.declared.value.Value.TheVariants as value
use Rattle.orc_values.specs.Texts.{slices}
use Rattle.orc_values.specs.TextsLaws.{length-slices}
use Rattle.orc_values.specs.Woven.{present_count, woven}
use Rattle.orc_values.specs.WovenLaws.{length-woven}
use Rattle.orc_columns.specs.declared.spelling.Spelling.{Spelling}
use Rattle.orc_columns.specs.declared.spelling.Spelling.TheVariants.{Bits, Integers, Texts, Dictionary}
use Rattle.orc_columns.specs.declared.spelling.Version.{Version}
use Rattle.orc_columns.specs.Column.{Streams, ArePresent, AreNumbers, AreValues, places_of, entry_text, row_value}
use Rattle.orc_columns.specs.Spelling.{IntRun}
use Rattle.row_bounds.specs.Bounds.{AreBytes, most_rows_a_byte, values_stream, bytes_or}
use Rattle.row_bounds.specs.Laws.{ColumnsAreBounded}
use Rattle.row_bounds.proofs.SpelledBytes.{spelled_bounded}
use Rattle.row_bounds.proofs.RunLengths.{bit_run_bounded, int_run_bounded}

-- ---- values that aren't null

numbers_bounded : (version : Version) (signed : Bool) (stream : List ℕ) (numbers : List ℤ) → AreBytes stream → AreNumbers version signed stream numbers
    → length numbers ≤ most_rows_a_byte * length stream
numbers_bounded version signed stream numbers are (rest, spelled) =
    spelled_bounded (IntRun version signed) (int_run_bounded version signed) stream numbers rest are spelled

values_bounded : (spelling : Spelling) (size : ℕ) (s : Streams) (values : List Value) → AreBytes s.body → AreBytes s.lengths
    → AreValues spelling size s values → length values ≤ most_rows_a_byte * length (values_stream spelling s)
values_bounded Bits size s values body lengths (bits, rest, spelled, is) =
    let few = spelled_bounded BitRun bit_run_bounded s.body bits rest body spelled in
    let len : length values ≡ length (map (λ (b : Bool). value.Bool b) bits) = ap length is in
    omega (arith, few, len, length-map bits (λ (b : Bool). value.Bool b))
values_bounded (Integers version) size s values body lengths (numbers, spelled, is) =
    let few = numbers_bounded version true s.body numbers body spelled in
    let len : length values ≡ length (map (λ (n : ℤ). value.Int n) numbers) = ap length is in
    omega (arith, few, len, length-map numbers (λ (n : ℤ). value.Int n))
values_bounded (Texts version) size s values body lengths (lens, are, is) =
    let few = numbers_bounded version false s.lengths (map (λ (n : ℕ). pos n) lens) lengths are.spelled in
    let len : length values ≡ length (map (λ (t : List ℕ). value.Text t) (slices 0 lens s.body)) = ap length is in
    omega (arith, few, len, length-map lens (λ (n : ℕ). pos n), length-map (slices 0 lens s.body) (λ (t : List ℕ). value.Text t), length-slices 0 lens s.body)
values_bounded (Dictionary version) size s values body lengths (lens, numbers, all, are, spelled, within, is) =
    let few = numbers_bounded version false s.body numbers body spelled in
    let len : length values ≡ length (map (entry_text (slices 0 lens s.dictionary)) (places_of numbers)) = ap length is in
    omega (arith, few, len, length-map (places_of numbers) (entry_text (slices 0 lens s.dictionary)), length-map numbers (cast_unsigned w64))

-- ---- rows

all_set : (count : ℕ) → present_count (replicate count true) ≡ count
all_set zero = refl
all_set (suc count) = omega (arith, all_set count)

-- by PRESENT, or by the values where it has no byte
flags_bounded : (present others : List ℕ) (flags : List Bool) → AreBytes present → ArePresent present flags
    → present_count flags ≤ most_rows_a_byte * length others → length flags ≤ most_rows_a_byte * length (bytes_or present others)
flags_bounded [] others flags are all few =
    let count : present_count flags ≡ length flags = ap present_count all ∙ all_set (length flags) in
    omega (arith, count, few)
flags_bounded (byte ∷ bytes) others flags are (rest, spelled) few = spelled_bounded BitRun bit_run_bounded (byte ∷ bytes) flags rest are spelled

same_spelling : (x y : Spelling) (o : Option Spelling) → o ≡ Some x → o ≡ Some y → x ≡ y
same_spelling x y o p q = cc

pub columns_are_bounded : ColumnsAreBounded
columns_are_bounded plan s rows spelling present body lengths spelled column =
    let same = same_spelling column.spelling spelling _ column.spelled spelled in
    let standing = subst (λ (x : Spelling). AreValues x plan.dictionary_size s column.values) same column.standing in
    let few = values_bounded spelling plan.dictionary_size s column.values body lengths standing in
    let len : length rows ≡ length (map row_value (woven column.flags column.values)) = ap length column.rows_are in
    let bounded = flags_bounded s.present (values_stream spelling s) column.flags present column.present (omega (arith, few, column.enough)) in
    omega (arith, bounded, len, length-map (woven column.flags column.values) row_value, length-woven column.flags column.values)
