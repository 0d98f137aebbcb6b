-- A batch of a dictionary's texts, by the numbers of their entries.
use Rattle.std.proofs.Common.{◌≡◌, ℕ, ◌+◌, ◌<◌, Bool, false, List, [], ◌∷◌, ◌++◌, length, map, Option, Ok, Err, ℤ, pos, refl, sym, ◌∙◌, ap, subst, arith, length-append}
use Rattle.std.specs.Prelude.{All, Contains, slice_index_or}
use Rattle.std.specs.Int.{w64, cast_unsigned}
use Rattle.std.proofs.lemmas.List.{map-append, length-map}
use Rattle.std.proofs.lemmas.List.Elements.{Contains-append_right, All-append}
use Rattle.outside.specs.Feed.{Taken, Lost, taken_of}
use Rattle.outside.specs.Runs.{Between, Breaks, Spells}
use Rattle.orc_values.specs.declared.column_values.ColumnValues.{ColumnValues}
use Rattle.orc_values.specs.declared.value.Value.{Value}
use Rattle.orc_values.specs.declared.value.Value.TheVariants as value
use Rattle.orc_values.specs.Column.{values_in}
use Rattle.orc_values.specs.Texts.{slices}
use Rattle.orc_values.specs.TextsLaws.{length-slices}
use Rattle.orc_columns.specs.declared.fault.ColumnFault.{ColumnFault}
use Rattle.orc_columns.specs.declared.fault.ColumnFault.TheVariants.{BadEncoding, Run, NegativeLength, LengthsPastData, IndexOutOfDictionary, Read, NoMemory}
use Rattle.orc_columns.specs.declared.plan.ColumnPlan.{ColumnPlan}
use Rattle.orc_columns.specs.declared.spelling.Version.{Version}
use Rattle.orc_columns.specs.declared.value_reader.ValueReader.{ValueReader}
use Rattle.orc_columns.specs.declared.value_reader.ValueReader.TheVariants as reader
use Rattle.orc_columns.specs.Batches.{NumbersGoOn, NumbersBreak, ValuesGoOn, ValuesBreak}
use Rattle.orc_columns.specs.Column.{Streams, AreLengths, places, index, entry_text, places_of}
use Rattle.orc_columns.specs.Decoders.{IntegersOf}
use Rattle.orc_columns.specs.Draws.{Draws, Decided, IsReadError}
use Rattle.row_texts.specs.Lookup.{chosen}
use Rattle.orc_columns.specs.Entries.{IsOutOf}
use Rattle.orc_columns.specs.Spelling.{IntRun, int_run}
use Rattle.orc_columns.proofs.Drawing.{Draws-ok, Draws-fault, Draws-stops}
use Rattle.orc_columns.proofs.ValueBatches.{given_on}
use Rattle.orc_columns.proofs.TextLengths.{of_sign, unsigned_of}
use Rattle.orc_columns.specs.Turns.{alone}

text_of_chosen : (entries : List (List ℕ)) (numbers : List ℕ) → map (λ t. value.Text t) (chosen entries numbers) ≡ map (entry_text entries) numbers
text_of_chosen entries [] = refl
text_of_chosen entries (n ∷ numbers) = ap (λ (l : List Value). value.Text (slice_index_or entries n []) ∷ l) (text_of_chosen entries numbers)

pub length-chosen : (entries : List (List ℕ)) (numbers : List ℤ) → length (chosen entries (places_of numbers)) ≡ length numbers
length-chosen entries numbers = length-map (places_of numbers) (λ (place : ℕ). slice_index_or entries place []) ∙ length-map numbers (cast_unsigned w64)

places_of-append : (xs ys : List ℤ) → places_of (xs ++ ys) ≡ places_of xs ++ places_of ys
places_of-append xs ys = map-append (cast_unsigned w64) xs ys

abbrev pub reader_of : List (List ℕ) → IntegersOf → ValueReader
reader_of entries numbers = reader.Dictionary (record { entries = entries; places = numbers })

module _ (size n : ℕ) (entries : List (List ℕ)) (old new : IntegersOf) (unsigned : old.signed ≡ false) where
  length-given : (given : List Value) (numbers : List ℤ) → given ≡ map (entry_text entries) (places_of numbers) → length given ≡ length numbers
  length-given given numbers is = ap length is ∙ length-map (places_of numbers) (entry_text entries) ∙ length-map numbers (cast_unsigned w64)

  length-entries : (lengths bytes : List ℕ) → length lengths ≡ size → entries ≡ slices 0 lengths bytes → length entries ≡ size
  length-entries lengths bytes len is = ap length is ∙ length-slices 0 lengths bytes ∙ len

  pub places_go : (b a : Streams) (numbers : List ℤ) (typed : ColumnValues) → new.version ≡ old.version → length numbers ≡ n → All (λ place. place < length entries) (places_of numbers)
      → values_in typed ≡ map (λ t. value.Text t) (chosen entries (places_of numbers))
      → NumbersGoOn old new b a numbers → ValuesGoOn size (reader_of entries old) (reader_of entries new) b a typed
  places_go b a numbers typed version len below rows on =
      let values : values_in typed ≡ map (entry_text entries) (places_of numbers) = rows ∙ text_of_chosen entries (places_of numbers) in
      record {
        present = on.0.0;
        goes = λ start given at.
            let before : List ℤ = at.1 in
            let here : Between (IntRun old.version old.signed) start.body (before ++ numbers) new.held a.body = on.1 start.body before (of_sign old.version old.signed start.body before old.held b.body unsigned at.5) in
            let there : Between (IntRun old.version false) start.body (before ++ numbers) new.held a.body = unsigned_of old.version old.signed start.body (before ++ numbers) new.held a.body unsigned here in
            let of_version : Between (IntRun new.version false) start.body (before ++ numbers) new.held a.body = subst (λ (v : Version). Between (IntRun v false) start.body (before ++ numbers) new.held a.body) (sym version) there in
            let len_entries : length entries ≡ size = length-entries at.0 start.dictionary at.2 at.4 in
            let of_size : All (λ place. place < size) (places_of numbers) = subst (λ (k : ℕ). All (λ place. place < k) (places_of numbers)) len_entries below in
            let all : All (λ place. place < size) (places_of (before ++ numbers)) = subst (λ (l : List ℕ). All (λ place. place < size) l) (sym (places_of-append before numbers)) (All-append (λ (place : ℕ). place < size) (places_of before) (places_of numbers) at.6 of_size) in (
              at.0,
              before ++ numbers,
              at.2,
              subst (λ (v : Version). AreLengths v start.lengths (length start.dictionary) at.0) (sym version) at.3,
              at.4,
              of_version,
              all,
              given_on (entry_text entries) given (values_in typed) (places_of before) (places_of numbers) at.7 values ∙ ap (λ (l : List ℕ). map (entry_text entries) l) (sym (places_of-append before numbers)),
              subst (λ (l : List ℕ). Spells (IntRun new.version false) start.lengths (map pos at.0) l) (sym on.0.1) (subst (λ (v : Version). Spells (IntRun v false) start.lengths (map pos at.0) b.lengths) (sym version) at.8),
              on.0.2 ∙ at.9,
            );
      }

  pub places_break : (b : Streams) (fault : ColumnFault) → NumbersBreak old n b fault → ValuesBreak size n (reader_of entries old) b fault
  places_break b fault breaks start given at =
      let here : Breaks (IntRun old.version old.signed) (int_run old.version old.signed) start.body (length at.1 + n) breaks.0 = breaks.2 start.body at.1 (of_sign old.version old.signed start.body at.1 old.held b.body unsigned at.5) in
      let there : Breaks (IntRun old.version false) (int_run old.version false) start.body (length at.1 + n) breaks.0 = subst (λ (s : Bool). Breaks (IntRun old.version s) (int_run old.version s) start.body (length at.1 + n) breaks.0) unsigned here in
      let len : length at.1 + n ≡ length given + n = omega (arith, length-given given at.1 at.7) in
      rw breaks.1 (places at.0 at.2 at.3 (subst (λ (k : ℕ). Breaks (IntRun old.version false) (int_run old.version false) start.body k breaks.0) len there))

  pub out_of : (b a : Streams) (numbers : List ℤ) (fault : ColumnFault) → length numbers ≡ n → IsOutOf entries numbers fault → NumbersGoOn old new b a numbers → Decided (ValuesBreak size n (reader_of entries old) b) fault
  out_of b a numbers BadEncoding len is on = absurd is
  out_of b a numbers (Run name fault) len is on = absurd is
  out_of b a numbers NegativeLength len is on = absurd is
  out_of b a numbers LengthsPastData len is on = absurd is
  out_of b a numbers (Read failed) len is on = tt
  out_of b a numbers NoMemory len is on = tt
  out_of b a numbers IndexOutOfDictionary len is on = λ start given at.
      let before : List ℤ = at.1 in
      let here : Between (IntRun old.version old.signed) start.body (before ++ numbers) new.held a.body = on.1 start.body before (of_sign old.version old.signed start.body before old.held b.body unsigned at.5) in
      let there : Between (IntRun old.version false) start.body (before ++ numbers) new.held a.body = unsigned_of old.version old.signed start.body (before ++ numbers) new.held a.body unsigned here in
      let there_is : Contains (places_of (before ++ numbers)) is.0 = subst (λ (l : List ℕ). Contains l is.0) (sym (places_of-append before numbers)) (Contains-append_right (places_of before) (places_of numbers) is.0 is.1) in
      index at.0 (before ++ numbers) is.0 at.2 at.3 (omega (arith, length-append before numbers, length-given given before at.7, len)) (a.body, (new.held, there)) there_is (omega (arith, is.2, length-entries at.0 start.dictionary at.2 at.4))

  no_read : (numbers : List ℤ) (fault : ColumnFault) → IsOutOf entries numbers fault → IsReadError fault → ⊥
  no_read numbers (Read failed) is e = is
  no_read numbers NoMemory is e = e
  no_read numbers BadEncoding is e = e
  no_read numbers (Run name fault) is e = e
  no_read numbers NegativeLength is e = e
  no_read numbers LengthsPastData is e = e
  no_read numbers IndexOutOfDictionary is e = e

  module _ {F : Type 0} (rest : F → ℕ → Option (List ℕ)) (fed : F → List Taken → F → Type 0) (count : F → ℕ) (plan : ColumnPlan)
      (lost : (first last : F) (takes : List Taken) (stream : ℕ) → fed first takes last → Lost (taken_of stream takes) (rest first stream) (rest last stream))
      (nothing : (feed : F) → fed feed [] feed) (joined : (first between last : F) (xs ys : List Taken) → fed first xs between → fed between ys last → fed first (xs ++ ys) last)
      (first last : F) where
    pub places_ok : (numbers : List ℤ) (typed : ColumnValues) → new.version ≡ old.version → length numbers ≡ n → All (λ place. place < length entries) (places_of numbers)
        → values_in typed ≡ map (λ t. value.Text t) (chosen entries (places_of numbers))
        → Draws rest fed count plan (alone plan.body) first last (NumbersGoOn old new) (NumbersBreak old n) (Ok numbers)
        → Draws rest fed count plan (alone plan.body) first last (ValuesGoOn size (reader_of entries old) (reader_of entries new)) (ValuesBreak size n (reader_of entries old)) (Ok typed)
    places_ok numbers typed version len below rows d =
        Draws-ok rest fed count plan lost nothing joined first last (NumbersGoOn old new) (ValuesGoOn size (reader_of entries old) (reader_of entries new))
        (NumbersBreak old n) (ValuesBreak size n (reader_of entries old)) numbers typed (λ b a tells goes. places_go b a numbers typed version len below rows goes) d

    pub places_fault : (fault : ColumnFault)
        → Draws {Y = List ℤ} rest fed count plan (alone plan.body) first last (NumbersGoOn old new) (NumbersBreak old n) (Err fault)
        → Draws rest fed count plan (alone plan.body) first last (ValuesGoOn size (reader_of entries old) (reader_of entries new)) (ValuesBreak size n (reader_of entries old)) (Err fault)
    places_fault fault d =
        Draws-fault rest fed count plan lost nothing joined first last (NumbersGoOn old new) (ValuesGoOn size (reader_of entries old) (reader_of entries new))
        (NumbersBreak old n) (ValuesBreak size n (reader_of entries old)) fault (λ b f tells breaks. places_break b f breaks) d

    pub places_out : (numbers : List ℤ) (fault : ColumnFault) → length numbers ≡ n → IsOutOf entries numbers fault
        → Draws rest fed count plan (alone plan.body) first last (NumbersGoOn old new) (NumbersBreak old n) (Ok numbers)
        → Draws rest fed count plan (alone plan.body) first last (ValuesGoOn size (reader_of entries old) (reader_of entries new)) (ValuesBreak size n (reader_of entries old)) (Err fault)
    places_out numbers fault len is d =
        Draws-stops rest fed count plan lost nothing joined first last (NumbersGoOn old new) (ValuesGoOn size (reader_of entries old) (reader_of entries new))
        (NumbersBreak old n) (ValuesBreak size n (reader_of entries old)) numbers fault (no_read numbers fault is) (λ b a tells goes. out_of b a numbers fault len is goes) d
