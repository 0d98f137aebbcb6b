-- From the flags and the values of a batch to its rows.
use Rattle.std.proofs.Common.{◌≡◌, ℕ, ◌+◌, Bool, List, [], ◌∷◌, ◌++◌, length, map, Option, Some, None, Ok, Err, refl, sym, ◌∙◌, ap, subst, arith, length-append}
use Rattle.std.specs.Prelude.{Result, OnOk, IfErr, IfSome}
use Rattle.std.specs.Result.{result_err}
use Rattle.std.proofs.lemmas.List.{map-append, length-map}
use Rattle.outside.specs.Reading.{placed}
use Rattle.outside.specs.Feed.{Taken, Lost, taken_of}
use Rattle.outside.specs.RunLaws.{Between-start}
use Rattle.orc_rle.specs.BitRun.{BitRun}
use Rattle.orc_values.specs.declared.column_values.ColumnValues.{ColumnValues}
use Rattle.orc_values.specs.declared.value.Value.{Value}
use Rattle.orc_values.specs.Column.{column_of, entries_in, values_in}
use Rattle.orc_values.specs.ColumnLaws.{column-woven, length-values_in}
use Rattle.orc_values.specs.Woven.{present_count, woven}
use Rattle.orc_values.specs.WovenLaws.{woven-append, present_count-append, length-woven}
use Rattle.orc_columns.specs.declared.fault.ColumnFault.{ColumnFault}
use Rattle.orc_columns.specs.declared.plan.ColumnPlan.{ColumnPlan}
use Rattle.row_flags.specs.declared.present.PresentState.{PresentState}
use Rattle.row_flags.specs.declared.present.PresentState.TheVariants.{Unread, Empty, Flags}
use Rattle.orc_columns.specs.declared.spelling.Spelling.{Spelling}
use Rattle.orc_columns.specs.declared.value_reader.ValueReader.{ValueReader}
use Rattle.orc_columns.specs.declared.value_reader.ValueReader.TheVariants as reader
use Rattle.orc_columns.specs.Batches.{HoldsNoRead, FlagsGoOn, FlagsBreak, ValuesGoOn, ValuesBreak}
use Rattle.orc_columns.specs.Column.{Streams, ArePresent, PresentBreaks, ValuesFail, nulls, values, row_value, rows_of}
use Rattle.row_flags.specs.Decoders.{PresentOf}
use Rattle.orc_columns.specs.Draws.{StreamsDiffer, Draws}
use Rattle.orc_columns.specs.Midway.{ReaderOf, ValuesBetween, spelling_in}
use Rattle.row_flags.specs.Present.{PresentBetween}
use Rattle.orc_columns.specs.Spelling.{spelling_of}
use Rattle.orc_columns.specs.Turns.{alone, value_streams, batch_by, batch_streams}
use Rattle.orc_columns.proofs.Drawing.{Draws-then, Draws-ok, Draws-fault}
use Rattle.orc_columns.specs.Reader.{IsReady, IsSound, whole_reader, RowsGoOn, RowsFail}

-- flags that were given are those of PRESENT
pub given_are_present : (state : PresentState) (start : List ℕ) (flags held : List Bool) (rest : List ℕ) → PresentBetween state start flags held rest → ArePresent start flags
given_are_present Unread [] flags held rest at = rw at.0 refl
given_are_present Unread (byte ∷ bytes) flags held rest at = rw at.0 (byte ∷ bytes, ([], Between-start BitRun (byte ∷ bytes)))
given_are_present Empty [] flags held rest at = at.2
given_are_present Empty (byte ∷ bytes) flags held rest at = absurd (let no : byte ∷ bytes ≡ [] = at.0 in cc)
given_are_present Flags [] flags held rest at = absurd (at.0 refl)
given_are_present Flags (byte ∷ bytes) flags held rest at = (rest, (held, at.1))

-- what was taken of PRESENT is nothing to the values
pub standing_on : (size : ℕ) (start : Streams) (given : List Value) (v : ValueReader) (b m : Streams) → m.body ≡ b.body → m.lengths ≡ b.lengths → m.dictionary ≡ b.dictionary → ValuesBetween size start given v b → ValuesBetween size start given v m
standing_on size start given (reader.Bits x) b m body lengths dictionary at = rw (body, lengths, dictionary) at
standing_on size start given (reader.Integers x) b m body lengths dictionary at = rw (body, lengths, dictionary) at
standing_on size start given (reader.Texts x) b m body lengths dictionary at = rw (body, lengths, dictionary) at
standing_on size start given (reader.Dictionary x) b m body lengths dictionary at = rw (body, lengths, dictionary) at

length-rows : (flags : List Bool) (dense : List Value) → length (rows_of flags dense) ≡ length flags
length-rows flags dense = length-map (woven flags dense) row_value ∙ length-woven flags dense

rows_of-append : (before after : List Bool) (front back : List Value) → length front ≡ present_count before → rows_of (before ++ after) (front ++ back) ≡ rows_of before front ++ rows_of after back
rows_of-append before after front back h = ap (λ (l : List (Option Value)). map row_value l) (woven-append before after front back h) ∙ map-append row_value (woven before front) (woven after back)

module _ (plan : ColumnPlan) (old new : PresentOf) (ov nv : ValueReader) where
  -- the rows that were given go on with those of the flags and the values
  pub rows_go : (flags : List Bool) (typed : ColumnValues) (rows : List Value) (b m a : Streams) → spelling_in nv ≡ spelling_in ov → entries_in typed ≡ present_count flags → rows ≡ column_of flags typed → FlagsGoOn old new b m flags → ValuesGoOn plan.dictionary_size ov nv m a typed
      → RowsGoOn (whole_reader plan old ov) (whole_reader plan new nv) b a rows
  rows_go flags typed rows b m a same counted is on goes start given at = record {
    flags = at.flags ++ flags;
    values = at.values ++ values_in typed;
    spelled = at.spelled ∙ ap (λ (s : Spelling). Some s) (sym same);
    present = rw goes.present (on.1 start.present at.flags at.present);
    enough = omega (arith, length-append at.values (values_in typed), present_count-append at.flags flags, at.enough, length-values_in typed, counted);
    standing = goes.goes start at.values (standing_on plan.dictionary_size start at.values ov b m on.0.0 on.0.1 on.0.2 at.standing);
    rows_are = rw (at.rows_are, is, column-woven flags typed) (sym (rows_of-append at.flags flags at.values (values_in typed) at.enough));
  }

  -- the flags break
  pub flags_fail : (n : ℕ) (b : Streams) (fault : ColumnFault) → FlagsBreak old n b fault → RowsFail (whole_reader plan old ov) n b fault
  flags_fail n b fault breaks start given at =
      let len : length at.flags + n ≡ length given + n = omega (arith, ap length at.rows_are, length-rows at.flags at.values) in
      rw breaks.1 (nulls (spelling_in ov) at.spelled (subst (λ (k : ℕ). PresentBreaks start.present k breaks.0) len (breaks.2 start.present at.flags at.present)))

  -- the values fail
  pub values_fail : (n : ℕ) (flags : List Bool) (b m : Streams) (fault : ColumnFault) → length flags ≡ n → FlagsGoOn old new b m flags → ValuesBreak plan.dictionary_size (present_count flags) ov m fault → RowsFail (whole_reader plan old ov) n b fault
  values_fail n flags b m fault asked on breaks start given at =
      let len : length (at.flags ++ flags) ≡ length given + n = omega (arith, ap length at.rows_are, length-rows at.flags at.values, length-append at.flags flags) in
      let counted : length at.values + present_count flags ≡ present_count (at.flags ++ flags) = omega (arith, present_count-append at.flags flags, at.enough) in
      let are : ArePresent start.present (at.flags ++ flags) = given_are_present new.state start.present (at.flags ++ flags) new.held m.present (on.1 start.present at.flags at.present) in
      values (spelling_in ov) (at.flags ++ flags) at.spelled len are
      (subst (λ (k : ℕ). ValuesFail plan.dictionary_size start k (spelling_in ov) fault) counted (breaks start at.values (standing_on plan.dictionary_size start at.values ov b m on.0.0 on.0.1 on.0.2 at.standing)))

module _ {F : Type 0} (rest : F → ℕ → Option (List ℕ)) (fed : F → List Taken → F → Type 0) (count : F → ℕ) (plan : ColumnPlan)
    (lost : (first last : F) (takes : List Taken) (stream : ℕ) → fed first takes last → Lost (taken_of stream takes) (rest first stream) (rest last stream))
    (nothing : (feed : F) → fed feed [] feed) (joined : (first between last : F) (xs ys : List Taken) → fed first xs between → fed between ys last → fed first (xs ++ ys) last)
    (old new : PresentOf) (ov nv : ValueReader) (n : ℕ) (first between last : F) (flags seen : List Bool) (same : seen ≡ flags) where
  pub batch_ok : {turns : List (Option ℕ)} (typed : ColumnValues) (rows : List Value) → spelling_in nv ≡ spelling_in ov → entries_in typed ≡ present_count seen → rows ≡ column_of seen typed
      → Draws rest fed count plan (alone plan.present) first between (FlagsGoOn old new) (FlagsBreak old n) (Ok flags)
      → Draws rest fed count plan turns between last (ValuesGoOn plan.dictionary_size ov nv) (ValuesBreak plan.dictionary_size (present_count seen) ov) (Ok typed)
      → Draws rest fed count plan (plan.present ∷ turns) first last (RowsGoOn (whole_reader plan old ov) (whole_reader plan new nv)) (RowsFail (whole_reader plan old ov) n) (Ok rows)
  batch_ok typed rows spelled counted is one two =
      Draws-ok rest fed count plan lost nothing joined first last
      (λ b a y. (m : Streams) × FlagsGoOn old new b m flags × ValuesGoOn plan.dictionary_size ov nv m a y) (RowsGoOn (whole_reader plan old ov) (whole_reader plan new nv))
      (λ b f. (m : Streams) × FlagsGoOn old new b m flags × ValuesBreak plan.dictionary_size (present_count seen) ov m f) (RowsFail (whole_reader plan old ov) n) typed rows
      (λ b a tells goes. rows_go plan old new ov nv seen typed rows b goes.0 a spelled counted is (subst (λ (l : List Bool). FlagsGoOn old new b goes.0 l) (sym same) goes.1) goes.2)
      (Draws-then rest fed count plan lost nothing joined first between last (FlagsGoOn old new) (ValuesGoOn plan.dictionary_size ov nv) (FlagsBreak old n) (ValuesBreak plan.dictionary_size (present_count seen) ov) flags (Ok typed) one two)

  pub batch_fault : {turns : List (Option ℕ)} (fault : ColumnFault) → length seen ≡ n
      → Draws rest fed count plan (alone plan.present) first between (FlagsGoOn old new) (FlagsBreak old n) (Ok flags)
      → Draws rest fed count plan turns between last (ValuesGoOn plan.dictionary_size ov nv) (ValuesBreak plan.dictionary_size (present_count seen) ov) (Err fault)
      → Draws rest fed count plan (plan.present ∷ turns) first last (RowsGoOn (whole_reader plan old ov) (whole_reader plan new nv)) (RowsFail (whole_reader plan old ov) n) (Err fault)
  batch_fault fault asked one two =
      Draws-fault rest fed count plan lost nothing joined first last
      (λ b a y. (m : Streams) × FlagsGoOn old new b m flags × ValuesGoOn plan.dictionary_size ov nv m a y) (RowsGoOn (whole_reader plan old ov) (whole_reader plan new nv))
      (λ b f. (m : Streams) × FlagsGoOn old new b m flags × ValuesBreak plan.dictionary_size (present_count seen) ov m f) (RowsFail (whole_reader plan old ov) n) fault
      (λ b f tells goes. values_fail plan old new ov nv n seen b goes.0 f asked (subst (λ (l : List Bool). FlagsGoOn old new b goes.0 l) (sym same) goes.1) goes.2)
      (Draws-then rest fed count plan lost nothing joined first between last (FlagsGoOn old new) (ValuesGoOn plan.dictionary_size ov nv) (FlagsBreak old n) (ValuesBreak plan.dictionary_size (present_count seen) ov) flags (Err fault) one two)

-- ---- the reader after a batch

ready_after : (plan : ColumnPlan) (new : PresentOf) (nv : ValueReader) (answer : Result (Unit {0}) ColumnFault) → OnOk answer (IsReady plan new nv) → result_err answer ≡ None → IsReady plan new nv
ready_after plan new nv (Ok done) ready e = ready
ready_after plan new nv (Err fault) ready e = absurd (let no : Some fault ≡ None = e in cc)

no_read_after : (answer : Result (Unit {0}) ColumnFault) → IfErr answer HoldsNoRead → IfSome (result_err answer) HoldsNoRead
no_read_after (Ok done) no_read = tt
no_read_after (Err fault) no_read = no_read

pub sound_after : (plan : ColumnPlan) (new : PresentOf) (ov nv : ValueReader) (answer : Result (Unit {0}) ColumnFault) → StreamsDiffer plan → spelling_of plan.kind plan.encoding ≡ Some (spelling_in ov) → spelling_in nv ≡ spelling_in ov
    → OnOk answer (IsReady plan new nv) → IfErr answer HoldsNoRead → IsSound plan new nv (result_err answer)
sound_after plan new ov nv answer differ spelled same ready no_read = record {
  differ = differ;
  spelled = spelled ∙ ap (λ (s : Spelling). Some s) (sym same);
  ready = ready_after plan new nv answer ready;
  no_read = no_read_after answer no_read;
}

abbrev reader_at : ColumnPlan → PresentOf → ValueReader → Option ColumnFault → ReaderOf
reader_at plan p v e = record { plan = plan; present = p; values = v; fault = e }

module _ {F : Type 0} (rest : F → ℕ → Option (List ℕ)) (fed : F → List Taken → F → Type 0) (count : F → ℕ)
    (lost : (first last : F) (takes : List Taken) (stream : ℕ) → fed first takes last → Lost (taken_of stream takes) (rest first stream) (rest last stream))
    (nothing : (feed : F) → fed feed [] feed) (joined : (first between last : F) (xs ys : List Taken) → fed first xs between → fed between ys last → fed first (xs ++ ys) last) where
  -- what a batch did, said of what contracts see
  seen_draws : {turns : List (Option ℕ)} (plan : ColumnPlan) (old new : PresentOf) (ov nv : ValueReader) (n : ℕ) (first last : F) (rows : List Value) (answer : Result (Unit {0}) ColumnFault) (fault : Option ColumnFault) → fault ≡ result_err answer
      → Draws rest fed count plan turns first last (RowsGoOn (whole_reader plan old ov) (whole_reader plan new nv)) (RowsFail (whole_reader plan old ov) n) (placed rows answer)
      → Draws rest fed count plan turns first last (RowsGoOn (whole_reader plan old ov) (reader_at plan new nv fault)) (RowsFail (whole_reader plan old ov) n) (placed rows answer)
  seen_draws {turns = turns} plan old new ov nv n first last rows (Ok done) fault kept d =
      subst (λ (e : Option ColumnFault). Draws rest fed count plan turns first last (RowsGoOn (whole_reader plan old ov) (reader_at plan new nv e)) (RowsFail (whole_reader plan old ov) n) (Ok rows)) (sym kept) d
  seen_draws plan old new ov nv n first last rows (Err e) fault kept d =
      Draws-fault rest fed count plan lost nothing joined first last (RowsGoOn (whole_reader plan old ov) (whole_reader plan new nv)) (RowsGoOn (whole_reader plan old ov) (reader_at plan new nv fault))
      (RowsFail (whole_reader plan old ov) n) (RowsFail (whole_reader plan old ov) n) e (λ b f tells fails. fails) d

  pub reader_draws : (plan : ColumnPlan) (old new : PresentOf) (ov nv : ValueReader) (before : ReaderOf) (n : ℕ) (first last : F) (rows : List Value) (answer : Result (Unit {0}) ColumnFault) (kept fault : Option ColumnFault)
      → spelling_of plan.kind plan.encoding ≡ Some (spelling_in ov) → reader_at plan old ov kept ≡ before → before.fault ≡ None → fault ≡ result_err answer
      → Draws rest fed count plan (plan.present ∷ value_streams plan (spelling_in ov)) first last (RowsGoOn (whole_reader plan old ov) (whole_reader plan new nv)) (RowsFail (whole_reader plan old ov) n) (placed rows answer)
      → Draws rest fed count before.plan (batch_streams before.plan) first last (RowsGoOn before (reader_at plan new nv fault)) (RowsFail before n) (placed rows answer)
  reader_draws plan old new ov nv before n first last rows answer kept fault spelled is fresh answered d =
      let none : kept ≡ None = ap (λ (r : ReaderOf). r.fault) is ∙ fresh in
      let whole : whole_reader plan old ov ≡ before = ap (λ (e : Option ColumnFault). reader_at plan old ov e) (sym none) ∙ is in
      subst (λ (r : ReaderOf). Draws rest fed count r.plan (batch_streams r.plan) first last (RowsGoOn r (reader_at plan new nv fault)) (RowsFail r n) (placed rows answer)) whole
      (subst (λ (turns : List (Option ℕ)). Draws rest fed count plan turns first last (RowsGoOn (whole_reader plan old ov) (reader_at plan new nv fault)) (RowsFail (whole_reader plan old ov) n) (placed rows answer))
      (ap (λ (s : Option Spelling). batch_by plan s) (sym spelled))
      (seen_draws plan old new ov nv n first last rows answer fault answered d))

-- an option that isn't Some
pub not_some : {A : Type 0} (o : Option A) → ((x : A) → o ≡ Some x → ⊥) → o ≡ None
not_some None h = refl
not_some (Some x) h = absurd (h x refl)
