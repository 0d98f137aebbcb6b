-- A batch of texts that are spelled one by one.
use Rattle.std.proofs.Common.{◌≡◌, ℕ, ◌+◌, ◌-◌, ◌≤◌, false, List, [], ◌∷◌, ◌++◌, length, map, take, drop, sum, Option, Ok, Err, Vec, Global, ℤ, pos, unsigned_abs, sym, ◌∙◌, ap, subst, arith, length-drop}
use Rattle.std.proofs.lemmas.List.{length-map, length-take-le, drop-drop, take-append-drop}
use Rattle.outside.specs.Feed.{Taken, Lost, taken_of}
use Rattle.outside.specs.Runs.{Between}
use Rattle.orc_values.specs.declared.column_values.ColumnValues.{ColumnValues}
use Rattle.orc_values.specs.declared.value.Value.{Value}
use Rattle.orc_values.specs.declared.value.Value.TheVariants as value
use Rattle.orc_values.specs.Column.{values_in}
use Rattle.orc_values.specs.Texts.{slices}
use Rattle.orc_values.specs.TextsLaws.{slices-front, slices-joined, length-slices}
use Rattle.orc_columns.specs.declared.fault.ColumnFault.{ColumnFault}
use Rattle.orc_columns.specs.declared.plan.ColumnPlan.{ColumnPlan}
use Rattle.orc_columns.specs.declared.spelling.Version.{Version}
use Rattle.orc_columns.specs.declared.value_reader.ValueReader.{ValueReader}
use Rattle.orc_columns.specs.declared.value_reader.ValueReader.TheVariants as reader
use Rattle.orc_columns.specs.Batches.{LengthsGoOn, LengthsRefuse, TotalOf, ValuesGoOn, ValuesBreak}
use Rattle.orc_columns.specs.Column.{Streams, LengthsFail, texts}
use Rattle.orc_columns.specs.Decoders.{IntegersOf}
use Rattle.orc_columns.specs.Draws.{Draws}
use Rattle.orc_columns.specs.Spelling.{IntRun}
use Rattle.orc_columns.specs.Takes.{BodyTaken, BodyShort}
use Rattle.orc_columns.proofs.ValueBatches.{given_on}
use Rattle.orc_columns.proofs.Drawing.{Draws-then, Draws-ok, Draws-fault}
use Rattle.orc_columns.proofs.TextLengths.{sum-append, joined_lengths, lengths_go}
use Rattle.orc_columns.specs.Turns.{alone}

-- texts of which some bytes were taken, and then these
pub slices_on : (lens more bytes start : List ℕ) → sum lens + sum more ≤ length start → bytes ≡ take (sum more) (drop (sum lens) start) → slices 0 lens start ++ slices 0 more bytes ≡ slices 0 (lens ++ more) start
slices_on lens more bytes start enough are =
    let front : List ℕ = take (sum lens) start in
    let back : List ℕ = drop (sum lens) start in
    let whole : front ++ back ≡ start = take-append-drop (sum lens) start in
    let front_len : length front ≡ sum lens = length-take-le (sum lens) start (omega arith) in
    let back_len : sum more ≤ length back = omega (arith, length-drop (sum lens) start) in
    let taken_len : length (take (sum more) back) ≡ sum more = length-take-le (sum more) back back_len in
    let first : slices 0 lens start ≡ slices 0 lens front = ap (λ (b : List ℕ). slices 0 lens b) (sym whole) ∙ slices-front 0 lens front back (omega arith) in
    let next : slices 0 more back ≡ slices 0 more (take (sum more) back) = ap (λ (b : List ℕ). slices 0 more b) (sym (take-append-drop (sum more) back)) ∙ slices-front 0 more (take (sum more) back) (drop (sum more) back) (omega arith) in
    let all : slices 0 (lens ++ more) start ≡ slices 0 lens front ++ slices 0 more back = ap (λ (b : List ℕ). slices 0 (lens ++ more) b) (sym whole) ∙ slices-joined lens more front back front_len in
    ap (λ (l : List (List ℕ)). l ++ slices 0 more bytes) first
    ∙ ap (λ (b : List ℕ). slices 0 lens front ++ slices 0 more b) are
    ∙ ap (λ (l : List (List ℕ)). slices 0 lens front ++ l) (sym next)
    ∙ sym all

abbrev pub reader_of : IntegersOf → Option ℕ → ℕ → Vec ℤ Global → ValueReader
reader_of lengths body left memory = reader.Texts (record { lengths = lengths; «data» = body; left = left; memory = memory })

module _ (size n : ℕ) (old new : IntegersOf) (body : Option ℕ) (left total : ℕ) (memory kept : Vec ℤ Global) (numbers : List ℤ) (unsigned : old.signed ≡ false) where
  pub texts_go : (b m a : Streams) (bytes : List ℕ) (typed : ColumnValues) → new.version ≡ old.version → length numbers ≡ n → TotalOf numbers left total
      → values_in typed ≡ map (λ t. value.Text t) (slices 0 (map unsigned_abs numbers) bytes)
      → LengthsGoOn old new b m numbers → BodyTaken total m a bytes → ValuesGoOn size (reader_of old body left memory) (reader_of new body (left - total) kept) b a typed
  texts_go b m a bytes typed version len total_of rows on took =
      let kind : List ℕ → Value = λ (t : List ℕ). value.Text t in
      let more : List ℕ = map unsigned_abs numbers in
      record {
        present = took.only.0 ∙ on.0.0;
        goes = λ start given at.
            let lens : List ℕ = at.0 in
            let here : Between (IntRun old.version false) start.lengths (map pos lens ++ numbers) new.held m.lengths = lengths_go old new b m numbers start.lengths lens unsigned on at.1 in
            let joined : Between (IntRun old.version false) start.lengths (map pos (lens ++ more)) new.held m.lengths = subst (λ (l : List ℤ). Between (IntRun old.version false) start.lengths l new.held m.lengths) (joined_lengths lens numbers total_of.positive) here in
            let of_version : Between (IntRun new.version false) start.lengths (map pos (lens ++ more)) new.held m.lengths = subst (λ (v : Version). Between (IntRun v false) start.lengths (map pos (lens ++ more)) new.held m.lengths) (sym version) joined in
            let there : Between (IntRun new.version false) start.lengths (map pos (lens ++ more)) new.held a.lengths = subst (λ (l : List ℕ). Between (IntRun new.version false) start.lengths (map pos (lens ++ more)) new.held l) (sym took.only.1) of_version in
            let body_was : m.body ≡ drop (sum lens) start.body = on.0.1 ∙ at.3 in
            let sums : sum (lens ++ more) ≡ sum lens + total = sum-append lens more ∙ ap (λ (k : ℕ). sum lens + k) (sym total_of.total_is) in
            let body_is : a.body ≡ drop (sum (lens ++ more)) start.body = took.left ∙ ap (λ (l : List ℕ). drop total l) body_was ∙ drop-drop total (sum lens) start.body ∙ ap (λ (k : ℕ). drop k start.body) (sym sums) in
            let bytes_are : bytes ≡ take (sum more) (drop (sum lens) start.body) = took.bytes_are ∙ ap (λ (k : ℕ). take k m.body) total_of.total_is ∙ ap (λ (l : List ℕ). take (sum more) l) body_was in
            let enough : sum lens + sum more ≤ length start.body = omega (arith, at.2, total_of.within, total_of.total_is) in (
              lens ++ more,
              there,
              omega (arith, at.2, sums, total_of.within),
              body_is,
              given_on kind given (values_in typed) (slices 0 lens start.body) (slices 0 more bytes) at.4 rows ∙ ap (λ (l : List (List ℕ)). map kind l) (slices_on lens more bytes start.body enough bytes_are),
              took.only.2 ∙ on.0.2 ∙ at.5,
            );
      }

  length-given : (given : List Value) (lens bytes : List ℕ) → given ≡ map (λ t. value.Text t) (slices 0 lens bytes) → length given ≡ length lens
  length-given given lens bytes is =
      let kind : List ℕ → Value = λ (t : List ℕ). value.Text t in
      ap length is ∙ length-map (slices 0 lens bytes) kind ∙ length-slices 0 lens bytes

  pub texts_refuse : (b : Streams) (fault : ColumnFault) → LengthsRefuse old n left b fault → ValuesBreak size n (reader_of old body left memory) b fault
  texts_refuse b fault refuse start given at =
      let fails : LengthsFail old.version start.lengths (left + sum at.0) (length at.0 + n) fault = refuse start.lengths at.0 at.1 in
      let whole : LengthsFail old.version start.lengths (length start.body) (length at.0 + n) fault = subst (λ (k : ℕ). LengthsFail old.version start.lengths k (length at.0 + n) fault) at.2 fails in
      let len : length at.0 + n ≡ length given + n = omega (arith, length-given given at.0 start.body at.4) in
      texts (subst (λ (k : ℕ). LengthsFail old.version start.lengths (length start.body) k fault) len whole)

  -- DATA has the bytes that it is said to have
  pub never_short : (b m : Streams) (fault : ColumnFault) → TotalOf numbers left total → LengthsGoOn old new b m numbers → BodyShort total m fault → ValuesBreak size n (reader_of old body left memory) b fault
  never_short b m fault total_of on short start given at =
      let body_was : length m.body ≡ length (drop (sum at.0) start.body) = ap length (on.0.1 ∙ at.3) in
      absurd (omega (arith, body_was, length-drop (sum at.0) start.body, at.2, total_of.within, short))

  module _ {F : Type 0} (rest : F → ℕ → Option (List ℕ)) (fed : F → List Taken → F → Type 0) (count : F → ℕ) (plan : ColumnPlan)
      (lost : (first last : F) (takes : List Taken) (stream : ℕ) → fed first takes last → Lost (taken_of stream takes) (rest first stream) (rest last stream))
      (nothing : (feed : F) → fed feed [] feed) (joined : (first between last : F) (xs ys : List Taken) → fed first xs between → fed between ys last → fed first (xs ++ ys) last)
      (first between last : F) (total_of : TotalOf numbers left total) where
    pub texts_ok : (bytes : List ℕ) (typed : ColumnValues) → new.version ≡ old.version → length numbers ≡ n
        → values_in typed ≡ map (λ t. value.Text t) (slices 0 (map unsigned_abs numbers) bytes)
        → Draws rest fed count plan (alone plan.length) first between (LengthsGoOn old new) (LengthsRefuse old n left) (Ok numbers)
        → Draws rest fed count plan (alone plan.body) between last (BodyTaken total) (BodyShort total) (Ok bytes)
        → Draws rest fed count plan (plan.length ∷ alone plan.body) first last (ValuesGoOn size (reader_of old body left memory) (reader_of new body (left - total) kept)) (ValuesBreak size n (reader_of old body left memory)) (Ok typed)
    texts_ok bytes typed version len rows one two =
        Draws-ok rest fed count plan lost nothing joined first last
        (λ b a y. (m : Streams) × LengthsGoOn old new b m numbers × BodyTaken total m a y) (ValuesGoOn size (reader_of old body left memory) (reader_of new body (left - total) kept))
        (λ b f. (m : Streams) × LengthsGoOn old new b m numbers × BodyShort total m f) (ValuesBreak size n (reader_of old body left memory)) bytes typed
        (λ b a tells goes. texts_go b goes.0 a bytes typed version len total_of rows goes.1 goes.2)
        (Draws-then rest fed count plan lost nothing joined first between last (LengthsGoOn old new) (BodyTaken total) (LengthsRefuse old n left) (BodyShort total) numbers (Ok bytes) one two)

    pub texts_fault : (after : ValueReader) (fault : ColumnFault)
        → Draws rest fed count plan (alone plan.length) first between (LengthsGoOn old new) (LengthsRefuse old n left) (Ok numbers)
        → Draws {Y = List ℕ} rest fed count plan (alone plan.body) between last (BodyTaken total) (BodyShort total) (Err fault)
        → Draws rest fed count plan (plan.length ∷ alone plan.body) first last (ValuesGoOn size (reader_of old body left memory) after) (ValuesBreak size n (reader_of old body left memory)) (Err fault)
    texts_fault after fault one two =
        Draws-fault rest fed count plan lost nothing joined first last
        (λ b a y. (m : Streams) × LengthsGoOn old new b m numbers × BodyTaken total m a y) (ValuesGoOn size (reader_of old body left memory) after)
        (λ b f. (m : Streams) × LengthsGoOn old new b m numbers × BodyShort total m f) (ValuesBreak size n (reader_of old body left memory)) fault
        (λ b f tells short. never_short b short.0 f total_of short.1 short.2)
        (Draws-then rest fed count plan lost nothing joined first between last (LengthsGoOn old new) (BodyTaken total) (LengthsRefuse old n left) (BodyShort total) numbers (Err fault) one two)
