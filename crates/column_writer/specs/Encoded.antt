-- The values of a column as they are kept before they are written, and the streams that are written of them.
--
-- Source: Apache ORC specification v1, "Column Encodings", by the definitions of orc_columns.
use Rattle.std.specs.Prelude.{◌≡◌, ℕ, ◌<◌, List, [], ◌∷◌, length, map, slice_index_or}
use Rattle.orc_values.specs.declared.value.Value.{Value}
use Rattle.orc_values.specs.declared.value.Value.TheVariants as value
use Rattle.orc_values.specs.Texts.{slices}
use Rattle.orc_columns.specs.declared.spelling.Spelling.{Spelling}
use Rattle.orc_columns.specs.declared.spelling.Spelling.TheVariants as by
use Rattle.orc_columns.specs.declared.spelling.Version.{Version}
use Rattle.orc_columns.specs.Column.{Streams, AreLengths, AreValues}
use Rattle.column_writer.specs.declared.kept.Kept.{Kept}
use Rattle.column_writer.specs.declared.kept.Kept.TheVariants as kept
use Rattle.column_writer.specs.declared.encoded.Encoded.{Encoded}

-- how they are spelled
abbrev pub spelling_in : Kept → Spelling
spelling_in (kept.Bits entries) = by.Bits
spelling_in (kept.Integers version entries) = by.Integers version
spelling_in (kept.Strings version texts) = by.Texts version
spelling_in (kept.Dictionary version texts) = by.Dictionary version

-- the values
abbrev pub values_in : Kept → List Value
values_in (kept.Bits entries) = map (λ b. value.Bool b) entries.items
values_in (kept.Integers version entries) = map (λ n. value.Int n) entries.items
values_in (kept.Strings version texts) = map (λ t. value.Text t) texts
values_in (kept.Dictionary version texts) = map (λ t. value.Text t) texts

abbrev pub streams_of : Encoded → Streams
streams_of e = record { present = e.present; body = e.body; lengths = e.lengths; dictionary = e.dictionary }

-- the streams spell these flags, and these values in that spelling
abbrev pub Spelled : Encoded → List ℕ → Spelling → List Value → Type 0
Spelled e present spelling values = (e.present ≡ present) × AreValues spelling e.dictionary_size (streams_of e) values

-- LENGTH spells the lengths of these texts, and cuts the bytes into them
abbrev pub SpellTexts : Version → List ℕ → List ℕ → List (List ℕ) → Type 0
SpellTexts version lengths bytes texts =
    (lens : List ℕ) × (length lens ≡ length texts) × AreLengths version lengths (length bytes) lens × (slices 0 lens bytes ≡ texts)

-- each of these texts is the entry of that place
abbrev pub AreChosen : List (List ℕ) → List ℕ → List (List ℕ) → Type 0
AreChosen entries [] [] = Unit {0}
AreChosen entries [] (text ∷ texts) = ⊥
AreChosen entries (place ∷ places) [] = ⊥
AreChosen entries (place ∷ places) (text ∷ texts) =
    (place < length entries) × (slice_index_or entries place [] ≡ text) × AreChosen entries places texts
