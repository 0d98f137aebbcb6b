-- Every column has values, or a condition refuses it.
use Rattle.std.proofs.Common.{◌≡◌, ℕ, suc, ◌<◌, ◌≤◌, ◌⊎◌, Bool, true, false, List, [], ◌∷◌, length, map, Option, Some, None, ℤ, pos, negsuc, refl, sym, ◌∙◌, ap, subst, arith, inl, inr, Contains, sum}
use Rattle.std.specs.Prelude.{replicate}
use Rattle.std.specs.Int.{w64, cast_unsigned}
use Rattle.std.proofs.lemmas.List.{length-map, length-replicate}
use Rattle.outside.specs.declared.run_fault.RunFault.{RunFault}
use Rattle.outside.specs.Runs.{IsDecided, SpellsOrBreaks}
use Rattle.orc_rle.specs.BitRun.{BitRun, bit_run}
use Rattle.orc_rle.specs.IntRun1.{IntRun1, int_run1}
use Rattle.orc_rle2.specs.IntRun2.{IntRun2, int_run2}
use Rattle.orc_values.specs.declared.value.Value.{Value}
use Rattle.orc_values.specs.declared.value.Value.TheVariants as value
use Rattle.orc_values.specs.Texts.{slices}
use Rattle.orc_values.specs.TextsLaws.{length-slices}
use Rattle.orc_values.specs.Woven.{woven, present_count}
use Rattle.orc_values.specs.WovenLaws.{length-woven}
use Rattle.orc_columns.specs.declared.fault.ColumnFault.{ColumnFault}
use Rattle.orc_columns.specs.declared.fault.ColumnFault.TheVariants.{BadEncoding}
use Rattle.orc_columns.specs.declared.plan.ColumnPlan.{ColumnPlan}
use Rattle.orc_columns.specs.declared.spelling.Spelling.{Spelling}
use Rattle.orc_columns.specs.declared.spelling.Spelling.TheVariants.{Bits, Integers, Texts, Dictionary}
use Rattle.orc_columns.specs.declared.spelling.Version.{Version}
use Rattle.orc_columns.specs.declared.spelling.Version.TheVariants.{One, Two}
use Rattle.orc_columns.specs.Column.{Streams, ArePresent, PresentBreaks, AreNumbers, AreLengths, LengthsFail, broken, negative, past, AreValues, ValuesFail, bits, integers, texts, entries, places, index, places_of, entry_text, IsNegative, IsColumn, Fails, encoding, nulls, values, row_value, rows_of}
use Rattle.orc_columns.specs.Laws.{HasValuesOrAFault}
use Rattle.orc_columns.specs.Numbers.{bound_from}
use Rattle.orc_columns.specs.Spelling.{spelling_of, IntRun, int_run}
use Rattle.orc_columns.proofs.Summaries.{all_below, some_above}

later : {X : Type 0} (x y : X) (xs : List X) → Contains xs x → Contains (y ∷ xs) x
later x y xs (k, below, is) = (suc k, omega (arith, below), is)

here : {X : Type 0} (x : X) (xs : List X) → Contains (x ∷ xs) x
here x xs = (0, omega arith, refl)

above_or_within : (u limit : ℕ) → (limit < u) ⊎ (u ≤ limit)
above_or_within u limit = grind arith

-- ---- numbers as lengths

abbrev AreLengthsOrNegative : List ℤ → Type 0
AreLengthsOrNegative numbers = ((lengths : List ℕ) × (numbers ≡ map pos lengths)) ⊎ ((number : ℤ) × Contains numbers number × IsNegative number)

one_more : (n : ℕ) (numbers : List ℤ) → AreLengthsOrNegative numbers → AreLengthsOrNegative (pos n ∷ numbers)
one_more n numbers (inl (lengths, is)) = inl (n ∷ lengths, ap (λ (zs : List ℤ). pos n ∷ zs) is)
one_more n numbers (inr (number, has, minus)) = inr (number, later number (pos n) numbers has, minus)

signs : (numbers : List ℤ) → AreLengthsOrNegative numbers
signs [] = inl ([], refl)
signs (pos n ∷ numbers) = one_more n numbers (signs numbers)
signs (negsuc n ∷ numbers) = inr (negsuc n, here (negsuc n) numbers, tt)

module _ (bits_decided : IsDecided BitRun bit_run) (ones : (signed : Bool) → IsDecided (IntRun1 signed) (int_run1 signed)) (twos : (signed : Bool) → IsDecided (IntRun2 signed) (int_run2 signed)) where
  numbers_decided : (version : Version) (signed : Bool) → IsDecided (IntRun version signed) (int_run version signed)
  numbers_decided One signed = ones signed
  numbers_decided Two signed = twos signed

  -- ---- flags

  abbrev FlagsOrBreak : List ℕ → ℕ → Type 0
  FlagsOrBreak stream rows = ((flags : List Bool) × (length flags ≡ rows) × ArePresent stream flags) ⊎ ((fault : RunFault) × PresentBreaks stream rows fault)

  flags_spelled : (byte : ℕ) (bytes : List ℕ) (rows : ℕ) → SpellsOrBreaks BitRun bit_run (byte ∷ bytes) rows → FlagsOrBreak (byte ∷ bytes) rows
  flags_spelled byte bytes rows (inl (flags, rest, len, spelled)) = inl (flags, len, (rest, spelled))
  flags_spelled byte bytes rows (inr (fault, breaks)) = inr (fault, breaks)

  flags_either : (stream : List ℕ) (rows : ℕ) → FlagsOrBreak stream rows
  flags_either [] rows =
      let len : length (replicate rows true) ≡ rows = length-replicate rows true in
      inl (replicate rows true, len, ap (λ (n : ℕ). replicate n true) (sym len))
  flags_either (byte ∷ bytes) rows = flags_spelled byte bytes rows (bits_decided.either (byte ∷ bytes) rows)

  -- ---- lengths

  abbrev LengthsOrFail : Version → List ℕ → ℕ → ℕ → Type 0
  LengthsOrFail version stream limit n = ((lengths : List ℕ) × (length lengths ≡ n) × AreLengths version stream limit lengths) ⊎ ((fault : ColumnFault) × LengthsFail version stream limit n fault)

  module _ (version : Version) (stream : List ℕ) (limit n : ℕ) where
    within_or_past : (lengths : List ℕ) → length lengths ≡ n → AreNumbers version false stream (map pos lengths) → (limit < sum lengths) ⊎ (sum lengths ≤ limit) → LengthsOrFail version stream limit n
    within_or_past lengths len spelled (inl above) = inr (_, past lengths len spelled above)
    within_or_past lengths len spelled (inr within) = inl (lengths, len, record { spelled = spelled; within = within })

    of_signs : (numbers : List ℤ) → length numbers ≡ n → AreNumbers version false stream numbers → AreLengthsOrNegative numbers → LengthsOrFail version stream limit n
    of_signs numbers len spelled (inl (lengths, is)) =
        within_or_past lengths (sym (length-map lengths pos) ∙ ap length (sym is) ∙ len) (subst (λ (zs : List ℤ). AreNumbers version false stream zs) is spelled) (above_or_within (sum lengths) limit)
    of_signs numbers len spelled (inr (number, has, minus)) = inr (_, negative numbers number len spelled has minus)

    of_runs : SpellsOrBreaks (IntRun version false) (int_run version false) stream n → LengthsOrFail version stream limit n
    of_runs (inl (numbers, rest, len, spelled)) = of_signs numbers len (rest, spelled) (signs numbers)
    of_runs (inr (fault, breaks)) = inr (_, broken breaks)

    lengths_either : LengthsOrFail version stream limit n
    lengths_either = of_runs ((numbers_decided version false).either stream n)

  -- ---- values that aren't null

  abbrev ValuesOrFail : Spelling → ℕ → Streams → ℕ → Type 0
  ValuesOrFail spelling size s n = ((standing : List Value) × (length standing ≡ n) × AreValues spelling size s standing) ⊎ ((fault : ColumnFault) × ValuesFail size s n spelling fault)

  module _ (size n : ℕ) (s : Streams) where
    of_bits : SpellsOrBreaks BitRun bit_run s.body n → ValuesOrFail Bits size s n
    of_bits (inl (found, rest, len, spelled)) = inl (map (λ b. value.Bool b) found, length-map found (λ b. value.Bool b) ∙ len, (found, rest, spelled, refl))
    of_bits (inr (fault, breaks)) = inr (_, bits breaks)

    of_integers : (version : Version) → SpellsOrBreaks (IntRun version true) (int_run version true) s.body n → ValuesOrFail (Integers version) size s n
    of_integers version (inl (numbers, rest, len, spelled)) = inl (map (λ z. value.Int z) numbers, length-map numbers (λ z. value.Int z) ∙ len, (numbers, (rest, spelled), refl))
    of_integers version (inr (fault, breaks)) = inr (_, integers breaks)

    of_texts : (version : Version) → LengthsOrFail version s.lengths (length s.body) n → ValuesOrFail (Texts version) size s n
    of_texts version (inl (lengths, len, are)) =
        let found = slices 0 lengths s.body in
        inl (map (λ t. value.Text t) found, length-map found (λ t. value.Text t) ∙ length-slices 0 lengths s.body ∙ len, (lengths, are, refl))
    of_texts version (inr (fault, fails)) = inr (fault, texts fails)

    module _ (version : Version) (lengths : List ℕ) (sized : length lengths ≡ size) (are : AreLengths version s.lengths (length s.dictionary) lengths) where
      of_bound : (numbers : List ℤ) → length numbers ≡ n → AreNumbers version false s.body numbers → (size < bound_from 0 numbers) ⊎ (bound_from 0 numbers ≤ size) → ValuesOrFail (Dictionary version) size s n
      of_bound numbers len spelled (inl above) =
          let some = some_above 0 size numbers (omega arith) above in
          inr (_, index lengths numbers (cast_unsigned w64 some.0) sized are len spelled some.2 some.3)
      of_bound numbers len spelled (inr within) =
          let found = slices 0 lengths s.dictionary in
          inl (
            map (entry_text found) (places_of numbers),
            length-map (places_of numbers) (entry_text found) ∙ length-map numbers (cast_unsigned w64) ∙ len,
            (lengths, numbers, sized, are, spelled, all_below 0 size numbers within, refl),
          )

      of_places : SpellsOrBreaks (IntRun version false) (int_run version false) s.body n → ValuesOrFail (Dictionary version) size s n
      of_places (inl (numbers, rest, len, spelled)) = of_bound numbers len (rest, spelled) (above_or_within (bound_from 0 numbers) size)
      of_places (inr (fault, breaks)) = inr (_, places lengths sized are breaks)

    of_entries : (version : Version) → LengthsOrFail version s.lengths (length s.dictionary) size → ValuesOrFail (Dictionary version) size s n
    of_entries version (inl (lengths, sized, are)) = of_places version lengths sized are ((numbers_decided version false).either s.body n)
    of_entries version (inr (fault, fails)) = inr (fault, entries fails)

    values_either : (spelling : Spelling) → ValuesOrFail spelling size s n
    values_either Bits = of_bits (bits_decided.either s.body n)
    values_either (Integers version) = of_integers version ((numbers_decided version true).either s.body n)
    values_either (Texts version) = of_texts version (lengths_either version s.lengths (length s.body) n)
    values_either (Dictionary version) = of_entries version (lengths_either version s.lengths (length s.dictionary) size)

  -- ---- a column

  module _ (plan : ColumnPlan) (s : Streams) (rows : ℕ) where
    abbrev ColumnOrFails : Type 0
    ColumnOrFails = ((found : List Value) × (length found ≡ rows) × IsColumn plan s found) ⊎ ((fault : ColumnFault) × Fails plan s rows fault)

    of_values : (spelling : Spelling) (flags : List Bool) → spelling_of plan.kind plan.encoding ≡ Some spelling → length flags ≡ rows → ArePresent s.present flags → ValuesOrFail spelling plan.dictionary_size s (present_count flags) → ColumnOrFails
    of_values spelling flags spelled len are (inl (standing, enough, have)) = inl (
      rows_of flags standing,
      length-map (woven flags standing) row_value ∙ length-woven flags standing ∙ len,
      record { spelling = spelling; flags = flags; values = standing; spelled = spelled; present = are; enough = enough; standing = have; rows_are = refl },
    )
    of_values spelling flags spelled len are (inr (fault, fails)) = inr (fault, values spelling flags spelled len are fails)

    of_flags : (spelling : Spelling) → spelling_of plan.kind plan.encoding ≡ Some spelling → FlagsOrBreak s.present rows → ColumnOrFails
    of_flags spelling spelled (inl (flags, len, are)) = of_values spelling flags spelled len are (values_either plan.dictionary_size (present_count flags) s spelling)
    of_flags spelling spelled (inr (fault, breaks)) = inr (_, nulls spelling spelled breaks)

    of_spelling : (spelling : Option Spelling) → spelling_of plan.kind plan.encoding ≡ spelling → ColumnOrFails
    of_spelling None lacks = inr (BadEncoding, encoding lacks)
    of_spelling (Some spelling) spelled = of_flags spelling spelled (flags_either s.present rows)

  pub column_either : HasValuesOrAFault
  column_either plan s rows = of_spelling plan s rows (spelling_of plan.kind plan.encoding) refl
