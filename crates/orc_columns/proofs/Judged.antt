-- How a column is judged, stream by stream.
use Rattle.std.proofs.Common.{◌≡◌, ℕ, ◌^◌, ◌<◌, ◌≤◌, Bool, true, false, List, [], ◌∷◌, ◌++◌, length, map, Option, Ok, Err, ℤ, pos, refl, sym, ◌∙◌, ap, subst, arith, All, Contains, sum, zero-add}
use Rattle.std.specs.Prelude.{Result, FitsSigned}
use Rattle.std.specs.Int.{w64, cast_unsigned}
use Rattle.std.proofs.lemmas.List.{length-map}
use Rattle.outside.specs.declared.run_fault.RunFault.{RunFault}
use Rattle.outside.specs.Feed.{Taken, Lost, taken_of}
use Rattle.outside.specs.Reading.{Reader}
use Rattle.outside.specs.Runs.{Spells, Breaks}
use Rattle.outside.specs.RunLaws.{Between-start}
use Rattle.orc_rle.specs.BitRun.{BitRun, bit_run}
use Rattle.orc_values.specs.declared.value.Value.TheVariants as value
use Rattle.orc_values.specs.Texts.{slices}
use Rattle.orc_values.specs.TextsLaws.{length-slices}
use Rattle.orc_columns.specs.declared.fault.ColumnFault.{ColumnFault}
use Rattle.orc_columns.specs.declared.fault.ColumnFault.TheVariants.{Run, NegativeLength, LengthsPastData, IndexOutOfDictionary}
use Rattle.orc_columns.specs.declared.fault.StreamName.{StreamName}
use Rattle.orc_columns.specs.declared.fault.StreamName.TheVariants as name
use Rattle.orc_columns.specs.declared.numbers.Summary.{Summary}
use Rattle.orc_columns.specs.declared.plan.ColumnPlan.{ColumnPlan}
use Rattle.orc_columns.specs.declared.spelling.Spelling.TheVariants.{Bits, Integers, Texts, Dictionary}
use Rattle.orc_columns.specs.declared.spelling.Version.{Version}
use Rattle.orc_columns.specs.Column.{Streams, AreLengths, LengthsFail, broken, negative, past, ValuesFail, bits, integers, texts, entries, places, index, places_of, IsNegative, entry_text}
use Rattle.orc_columns.specs.Draws.{StreamsDiffer, Tells, Draws, of_run, OnlyBody, OnlyLengths, GoesOn, BreaksOn}
use Rattle.orc_columns.specs.FirstFault.{Sized, JudgedLengths, JudgedValues}
use Rattle.row_flags.specs.Flags.{ReadsBits}
use Rattle.orc_columns.specs.Numbers.{ReadsNumbers, bound_from}
use Rattle.orc_columns.specs.Spelling.{IntRun, int_run}
use Rattle.orc_columns.proofs.Drawing.{Draws-ok, Draws-fault, Draws-stops, Draws-then, Draws-front, body_draws, length_draws}
use Rattle.orc_columns.proofs.Summaries.{total_is, all_below, some_above, are_places, is_negative}
use Rattle.orc_columns.specs.Turns.{alone}

-- ---- from a stream's start

pub spelled_from_start : {V : Type 0} (Form : List ℕ → List V → Type 0) (held : List V) (before after : List ℕ) (values : List V) → GoesOn Form [] held before after values → Spells Form before values after
spelled_from_start Form held before after values goes = (held, goes before [] (Between-start Form before))

pub breaks_from_start : {V : Type 0} (Form : List ℕ → List V → Type 0) (read : Reader (List V)) (which : StreamName) (asked : ℕ) (before : List ℕ) (fault : ColumnFault) → BreaksOn Form read which [] asked before fault → (b : RunFault) × (fault ≡ Run which b) × Breaks Form read before asked b
breaks_from_start Form read which asked before fault (b, is, breaks) = (b, is, subst (λ (n : ℕ). Breaks Form read before n b) (zero-add asked) (breaks before [] (Between-start Form before)))

-- an element of a list of which all are so is so
pub of_all : {X : Type 0} (P : X → Type 0) (xs : List X) (x : X) → All P xs → Contains xs x → P x
of_all P xs x all (k, below, is) = subst P is (all k x below)

module _ {F : Type 0} (rest : F → ℕ → Option (List ℕ)) (fed : F → List Taken → F → Type 0) (count : F → ℕ) (plan : ColumnPlan)
    (lost : (first last : F) (takes : List Taken) (stream : ℕ) → fed first takes last → Lost (taken_of stream takes) (rest first stream) (rest last stream))
    (nothing : (feed : F) → fed feed [] feed) (joined : (first between last : F) (xs ys : List Taken) → fed first xs between → fed between ys last → fed first (xs ++ ys) last)
    (differ : StreamsDiffer plan) where
  -- ---- bits

  pub bits_judged : (first last : F) (held : List Bool) (size n : ℕ) → ReadsBits rest fed count plan.body first last [] held n {T = Unit {0}} (Ok tt)
      → Draws {Y = Unit {0}} rest fed count plan (alone plan.body) first last (λ before after u. JudgedValues Bits size n before) (λ before fault. ValuesFail size before n Bits fault) (Ok tt)
  bits_judged first last held size n r =
      let drawn = body_draws rest fed count plan lost nothing joined differ BitRun bit_run first last [] held n (Ok r.bits) r.fills in
      Draws-ok rest fed count plan lost nothing joined first last _ _ _ _ r.bits tt
      (λ b a tells goes. (map (λ x. value.Bool x) r.bits, length-map r.bits (λ x. value.Bool x) ∙ r.all, (r.bits, a.body, spelled_from_start BitRun held b.body a.body r.bits goes.1, refl))) drawn

  pub bits_broken : (first last : F) (held : List Bool) (size n : ℕ) (fault : RunFault) → ReadsBits rest fed count plan.body first last [] held n {T = Unit {0}} (Err fault)
      → Draws {Y = Unit {0}} rest fed count plan (alone plan.body) first last (λ before after u. JudgedValues Bits size n before) (λ before fault. ValuesFail size before n Bits fault) (Err (of_run name.Body fault))
  bits_broken first last held size n fault r =
      let drawn = body_draws rest fed count plan lost nothing joined differ BitRun bit_run first last [] held n (Err fault) r.fills in
      Draws-fault rest fed count plan lost nothing joined first last _ _ _ _ (of_run name.Body fault)
      (λ b f tells breaks.
      let from = breaks_from_start BitRun bit_run name.Body n b.body f breaks in
      subst (λ (g : ColumnFault). ValuesFail size b n Bits g) (sym from.1) (bits from.2)) drawn

  -- ---- integers

  pub integers_judged : (version : Version) (first last : F) (held : List ℤ) (size n : ℕ) (s : Summary) → ReadsNumbers rest fed count (IntRun version true) (int_run version true) plan.body first last [] held n (Ok s)
      → Draws {Y = Unit {0}} rest fed count plan (alone plan.body) first last (λ before after u. JudgedValues (Integers version) size n before) (λ before fault. ValuesFail size before n (Integers version) fault) (Ok tt)
  integers_judged version first last held size n s r =
      let Form = IntRun version true in
      let drawn = body_draws rest fed count plan lost nothing joined differ Form (int_run version true) first last [] held n (Ok r.numbers) r.fills in
      Draws-ok rest fed count plan lost nothing joined first last _ _ _ _ r.numbers tt
      (λ b a tells goes. (map (λ x. value.Int x) r.numbers, length-map r.numbers (λ x. value.Int x) ∙ r.summary.0, (r.numbers, (a.body, spelled_from_start Form held b.body a.body r.numbers goes.1), refl))) drawn

  pub integers_broken : (version : Version) (first last : F) (held : List ℤ) (size n : ℕ) (fault : RunFault) → ReadsNumbers rest fed count (IntRun version true) (int_run version true) plan.body first last [] held n (Err fault)
      → Draws {Y = Unit {0}} rest fed count plan (alone plan.body) first last (λ before after u. JudgedValues (Integers version) size n before) (λ before fault. ValuesFail size before n (Integers version) fault) (Err (of_run name.Body fault))
  integers_broken version first last held size n fault r =
      let Form = IntRun version true in
      let drawn = body_draws rest fed count plan lost nothing joined differ Form (int_run version true) first last [] held n (Err fault) r.fills in
      Draws-fault rest fed count plan lost nothing joined first last _ _ _ _ (of_run name.Body fault)
      (λ b f tells breaks.
      let from = breaks_from_start Form (int_run version true) name.Body n b.body f breaks in
      subst (λ (g : ColumnFault). ValuesFail size b n (Integers version) g) (sym from.1) (integers from.2)) drawn

  -- ---- lengths of texts

  module _ (version : Version) (first last : F) (held : List ℤ) (limit n : ℕ) where
    abbrev Form : List ℕ → List ℤ → Type 0
    Form = IntRun version false

    abbrev Lengths : Result (Unit {0}) ColumnFault → Type 0
    Lengths answer = Draws {Y = Unit {0}} rest fed count plan (alone plan.length) first last (λ before after u. JudgedLengths version limit n before after) (λ before fault. LengthsFail version before.lengths limit n fault) answer

    pub lengths_broken : (fault : RunFault) → ReadsNumbers rest fed count Form (int_run version false) plan.length first last [] held n (Err fault) → Lengths (Err (of_run name.Length fault))
    lengths_broken fault r =
        let drawn = length_draws rest fed count plan lost nothing joined differ Form (int_run version false) first last [] held n (Err fault) r.fills in
        Draws-fault rest fed count plan lost nothing joined first last _ _ _ _ (of_run name.Length fault)
        (λ b f tells breaks.
        let from = breaks_from_start Form (int_run version false) name.Length n b.lengths f breaks in
        subst (λ (g : ColumnFault). LengthsFail version b.lengths limit n g) (sym from.1) (broken from.2)) drawn

    module _ (s : Summary) (r : ReadsNumbers rest fed count Form (int_run version false) plan.length first last [] held n (Ok s)) where
      bound_is : s.bound ≡ bound_from 0 r.numbers
      bound_is = ap (λ (u : Summary). u.bound) r.summary.1

      total_sum : s.total ≡ sum (places_of r.numbers)
      total_sum = ap (λ (u : Summary). u.total) r.summary.1 ∙ total_is 0 r.numbers ∙ zero-add (sum (places_of r.numbers))

      length_places : length (places_of r.numbers) ≡ n
      length_places = length-map r.numbers (cast_unsigned w64) ∙ r.summary.0

      drawn : Draws rest fed count plan (alone plan.length) first last (λ b a values. OnlyLengths b a × GoesOn Form [] held b.lengths a.lengths values) (λ b fault. BreaksOn Form (int_run version false) name.Length [] n b.lengths fault) (Ok r.numbers)
      drawn = length_draws rest fed count plan lost nothing joined differ Form (int_run version false) first last [] held n (Ok r.numbers) r.fills

      numbers_are : s.bound ≤ 2 ^ 63 → r.numbers ≡ map pos (places_of r.numbers)
      numbers_are low = are_places r.numbers r.summary.2 (all_below 0 (2 ^ 63) r.numbers (subst (λ (k : ℕ). k ≤ 2 ^ 63) bound_is low))

      pub a_negative : 2 ^ 63 < s.bound → Lengths (Err NegativeLength)
      a_negative high =
          let some = some_above 0 (2 ^ 63) r.numbers (omega arith) (subst (λ (k : ℕ). 2 ^ 63 < k) bound_is high) in
          let minus : IsNegative some.0 = is_negative some.0 (of_all (FitsSigned w64) r.numbers some.0 r.summary.2 some.1) some.3 in
          Draws-stops rest fed count plan lost nothing joined first last _ _ _ _ r.numbers NegativeLength (λ f. f)
          (λ b a tells goes. negative r.numbers some.0 r.summary.0 (a.lengths, spelled_from_start Form held b.lengths a.lengths r.numbers goes.1) some.1 minus) drawn

      spelled_places : s.bound ≤ 2 ^ 63 → (b a : Streams) → GoesOn Form [] held b.lengths a.lengths r.numbers → Spells Form b.lengths (map pos (places_of r.numbers)) a.lengths
      spelled_places low b a goes = subst (λ (v : List ℤ). Spells Form b.lengths v a.lengths) (numbers_are low) (spelled_from_start Form held b.lengths a.lengths r.numbers goes)

      pub past_data : s.bound ≤ 2 ^ 63 → limit < s.total → Lengths (Err LengthsPastData)
      past_data low high =
          Draws-stops rest fed count plan lost nothing joined first last _ _ _ _ r.numbers LengthsPastData (λ f. f)
          (λ b a tells goes. past (places_of r.numbers) length_places (a.lengths, spelled_places low b a goes.1) (subst (λ (k : ℕ). limit < k) total_sum high)) drawn

      pub lengths_judged : s.bound ≤ 2 ^ 63 → s.total ≤ limit → Lengths (Ok tt)
      lengths_judged low within =
          Draws-ok rest fed count plan lost nothing joined first last _ _ _ _ r.numbers tt
          (λ b a tells goes. (goes.0, (places_of r.numbers, length_places, record { spelled = (a.lengths, spelled_places low b a goes.1); within = subst (λ (k : ℕ). k ≤ limit) total_sum within }))) drawn

  -- ---- texts and dictionaries

  -- the same said of any answer
  pub said_so : {Y : Type 0} {turns : List (Option ℕ)} (first last : F) (Goes Other : Streams → Streams → Y → Type 0) (Faults Faults' : Streams → ColumnFault → Type 0) (answer : Result Y ColumnFault)
      → ((b a : Streams) (y : Y) → Tells rest first plan b → Goes b a y → Other b a y) → ((b : Streams) (f : ColumnFault) → Tells rest first plan b → Faults b f → Faults' b f)
      → Draws rest fed count plan turns first last Goes Faults answer → Draws rest fed count plan turns first last Other Faults' answer
  said_so first last Goes Other Faults Faults' (Ok y) goes faults d = Draws-ok rest fed count plan lost nothing joined first last Goes Other Faults Faults' y y (λ b a tells g. goes b a y tells g) d
  said_so first last Goes Other Faults Faults' (Err fault) goes faults d = Draws-fault rest fed count plan lost nothing joined first last Goes Other Faults Faults' fault faults d

  pub texts_judged : (version : Version) (first last : F) (size n : ℕ) (answer : Result (Unit {0}) ColumnFault)
      → Draws rest fed count plan (alone plan.length) first last (λ before after u. JudgedLengths version plan.body_len n before after) (λ before fault. LengthsFail version before.lengths plan.body_len n fault) answer
      → Draws rest fed count plan (alone plan.length) first last (λ before after u. Sized plan before → JudgedValues (Texts version) size n before) (λ before fault. Sized plan before → ValuesFail size before n (Texts version) fault) answer
  texts_judged version first last size n answer d =
      said_so first last _ _ _ _ answer
      (λ b a u tells goes sized.
      let lengths = goes.1.0 in
      let found = slices 0 lengths b.body in
      (map (λ t. value.Text t) found, length-map found (λ t. value.Text t) ∙ length-slices 0 lengths b.body ∙ goes.1.1, (lengths, subst (λ (k : ℕ). AreLengths version b.lengths k lengths) sized.0 goes.1.2, refl)))
      (λ b f tells fails sized. texts (subst (λ (k : ℕ). LengthsFail version b.lengths k n f) sized.0 fails)) d

  -- the dictionary is broken
  pub entries_broken : (version : Version) (first last : F) (size n : ℕ) (fault : ColumnFault)
      → Draws {Y = Unit {0}} rest fed count plan (alone plan.length) first last (λ before after u. JudgedLengths version plan.dictionary_len size before after) (λ before fault. LengthsFail version before.lengths plan.dictionary_len size fault) (Err fault)
      → Draws {Y = Unit {0}} rest fed count plan (plan.length ∷ alone plan.body) first last (λ before after u. Sized plan before → JudgedValues (Dictionary version) size n before) (λ before fault. Sized plan before → ValuesFail size before n (Dictionary version) fault) (Err fault)
  entries_broken version first last size n fault d =
      Draws-front rest fed count plan lost nothing joined (alone plan.body) first last _ _ (Err fault)
      (Draws-fault rest fed count plan lost nothing joined first last _ _ _ (λ before fault. Sized plan before → ValuesFail size before n (Dictionary version) fault) fault
      (λ b f tells fails sized. entries (subst (λ (k : ℕ). LengthsFail version b.lengths k size f) sized.1 fails)) d)

  module _ (version : Version) (first between last : F) (held : List ℤ) (size n : ℕ)
      (one : Draws {Y = Unit {0}} rest fed count plan (alone plan.length) first between (λ before after u. JudgedLengths version plan.dictionary_len size before after) (λ before fault. LengthsFail version before.lengths plan.dictionary_len size fault) (Ok tt)) where
    abbrev Entries : Result (Unit {0}) ColumnFault → Type 0
    Entries answer = Draws rest fed count plan (plan.length ∷ alone plan.body) first last (λ before after u. Sized plan before → JudgedValues (Dictionary version) size n before) (λ before fault. Sized plan before → ValuesFail size before n (Dictionary version) fault) answer

    sized : (b : Streams) (lengths : List ℕ) → Sized plan b → AreLengths version b.lengths plan.dictionary_len lengths → AreLengths version b.lengths (length b.dictionary) lengths
    sized b lengths lens are = subst (λ (k : ℕ). AreLengths version b.lengths k lengths) lens.1 are

    pub places_broken : (fault : RunFault) → ReadsNumbers rest fed count (IntRun version false) (int_run version false) plan.body between last [] held n (Err fault) → Entries (Err (of_run name.Body fault))
    places_broken fault r =
        let two = body_draws rest fed count plan lost nothing joined differ (IntRun version false) (int_run version false) between last [] held n (Err fault) r.fills in
        let both = Draws-then rest fed count plan lost nothing joined first between last _ _ _ _ tt (Err (of_run name.Body fault)) one two in
        Draws-fault rest fed count plan lost nothing joined first last _ _ _ _ (of_run name.Body fault)
        (λ b f tells so lens.
        let m = so.0 in
        let lengths = so.1.1.0 in
        let from = breaks_from_start (IntRun version false) (int_run version false) name.Body n m.body f so.2 in
        let body : m.body ≡ b.body = so.1.0.1 in
        subst (λ (g : ColumnFault). ValuesFail size b n (Dictionary version) g) (sym from.1)
        (places lengths so.1.1.1 (sized b lengths lens so.1.1.2) (subst (λ (s : List ℕ). Breaks (IntRun version false) (int_run version false) s n from.0) body from.2))) both

    module _ (s : Summary) (r : ReadsNumbers rest fed count (IntRun version false) (int_run version false) plan.body between last [] held n (Ok s)) where
      two : Draws rest fed count plan (alone plan.body) between last (λ b a values. OnlyBody b a × GoesOn (IntRun version false) [] held b.body a.body values) (λ b fault. BreaksOn (IntRun version false) (int_run version false) name.Body [] n b.body fault) (Ok r.numbers)
      two = body_draws rest fed count plan lost nothing joined differ (IntRun version false) (int_run version false) between last [] held n (Ok r.numbers) r.fills

      top : s.bound ≡ bound_from 0 r.numbers
      top = ap (λ (u : Summary). u.bound) r.summary.1

      spelled_body : (b m a : Streams) → m.body ≡ b.body → GoesOn (IntRun version false) [] held m.body a.body r.numbers → Spells (IntRun version false) b.body r.numbers a.body
      spelled_body b m a body goes = subst (λ (s : List ℕ). Spells (IntRun version false) s r.numbers a.body) body (spelled_from_start (IntRun version false) held m.body a.body r.numbers goes)

      pub out_of_dictionary : size < s.bound → Entries (Err IndexOutOfDictionary)
      out_of_dictionary high =
          let some = some_above 0 size r.numbers (omega arith) (subst (λ (k : ℕ). size < k) top high) in
          Draws-stops rest fed count plan lost nothing joined first last _ _ _ _ r.numbers IndexOutOfDictionary (λ f. f)
          (λ b a tells so lens.
          let lengths = so.1.1.0 in
          index lengths r.numbers (cast_unsigned w64 some.0) so.1.1.1 (sized b lengths lens so.1.1.2) r.summary.0 (a.body, spelled_body b so.0 a so.1.0.1 so.2.1) some.2 some.3)
          (Draws-then rest fed count plan lost nothing joined first between last _ _ _ _ tt (Ok r.numbers) one two)

      pub dictionary_judged : s.bound ≤ size → Entries (Ok tt)
      dictionary_judged low =
          Draws-ok rest fed count plan lost nothing joined first last _ _ _ _ r.numbers tt
          (λ b a tells so lens.
          let lengths = so.1.1.0 in
          let found = slices 0 lengths b.dictionary in (
            map (entry_text found) (places_of r.numbers),
            length-map (places_of r.numbers) (entry_text found) ∙ length-map r.numbers (cast_unsigned w64) ∙ r.summary.0,
            (lengths, r.numbers, so.1.1.1, sized b lengths lens so.1.1.2, (a.body, spelled_body b so.0 a so.1.0.1 so.2.1), all_below 0 size r.numbers (subst (λ (k : ℕ). k ≤ size) top low), refl),
          ))
          (Draws-then rest fed count plan lost nothing joined first between last _ _ _ _ tt (Ok r.numbers) one two)
