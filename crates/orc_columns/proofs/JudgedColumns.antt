-- How a whole column is judged: which rows have a value, and then the values.
use Rattle.std.proofs.Common.{◌≡◌, ℕ, List, [], ◌∷◌, ◌++◌, length, Option, Some, None, Ok, Err, refl, sym, ◌∙◌, ap, subst, arith, zero-add}
use Rattle.std.specs.Prelude.{Result}
use Rattle.std.proofs.lemmas.List.{length-map}
use Rattle.outside.specs.declared.run_fault.RunFault.{RunFault}
use Rattle.outside.specs.Feed.{Taken, Lost, taken_of}
use Rattle.outside.specs.Runs.{Spells}
use Rattle.orc_rle.specs.BitRun.{BitRun}
use Rattle.orc_values.specs.declared.value.Value.{Value}
use Rattle.orc_values.specs.Woven.{woven}
use Rattle.orc_values.specs.WovenLaws.{length-woven}
use Rattle.orc_columns.specs.declared.fault.ColumnFault.{ColumnFault}
use Rattle.orc_columns.specs.declared.fault.ColumnFault.TheVariants.{BadEncoding, Run, NegativeLength, LengthsPastData, IndexOutOfDictionary, Read, NoMemory}
use Rattle.orc_columns.specs.declared.fault.StreamName.TheVariants as name
use Rattle.orc_columns.specs.declared.plan.ColumnPlan.{ColumnPlan}
use Rattle.orc_columns.specs.declared.spelling.Spelling.{Spelling}
use Rattle.orc_columns.specs.declared.spelling.Spelling.TheVariants.{Bits, Integers, Texts, Dictionary}
use Rattle.orc_columns.specs.Batches.{HoldsNoRead}
use Rattle.orc_columns.specs.Column.{Streams, PresentBreaks, AreValues, ValuesFail, bits, integers, texts, entries, places, index, Fails, encoding, nulls, values, row_value, rows_of}
use Rattle.row_flags.specs.Decoders.{PresentOf, new_present}
use Rattle.orc_columns.specs.Draws.{StreamsDiffer, Tells, Draws, IsReadError, Decided, of_run, OnlyPresent}
use Rattle.orc_columns.specs.FirstFault.{found_by, Judges, IsJudged, Sized, StandingRows, NoStandingRows, JudgedValues, JudgedColumn}
use Rattle.row_flags.specs.Flags.{ReadsFlags}
use Rattle.row_flags.specs.Optional.{rest_in}
use Rattle.row_flags.specs.Present.{PresentBetween}
use Rattle.orc_columns.specs.Spelling.{spelling_of}
use Rattle.orc_columns.proofs.Drawing.{Draws-ok, Draws-fault, Draws-then, Draws-front, present_draws}
use Rattle.orc_columns.proofs.Judged.{said_so}
use Rattle.orc_columns.proofs.ReadingRows.{given_are_present}
use Rattle.orc_columns.proofs.Turns.{InTurn-none}
use Rattle.orc_columns.specs.Turns.{InTurn, alone, judged_values, judged_by, judged_streams}

-- before the first row
present_begins : (stream : Option ℕ) (start : List ℕ) → (stream ≡ None → start ≡ []) → PresentBetween (new_present stream).state start [] [] start
present_begins None start empty = (empty refl, empty refl, refl)
present_begins (Some s) start empty = (refl, refl, refl)

-- what is said of values speaks of the streams of values alone
values_same : (spelling : Spelling) (size : ℕ) (b m : Streams) (standing : List Value) → OnlyPresent b m → AreValues spelling size m standing → AreValues spelling size b standing
values_same Bits size b m standing only (found, rest, spelled, is) = (found, rest, subst (λ (s : List ℕ). Spells BitRun s found rest) only.0 spelled, is)
values_same (Integers version) size b m standing only are = rw (sym only.0) are
values_same (Texts version) size b m standing only are = rw (sym only.0, sym only.1) are
values_same (Dictionary version) size b m standing only are = rw (sym only.0, sym only.1, sym only.2) are

fails_same : {spelling : Spelling} {fault : ColumnFault} (size n : ℕ) (b m : Streams) → OnlyPresent b m → ValuesFail size m n spelling fault → ValuesFail size b n spelling fault
fails_same size n b m only (bits broken) = bits (rw (sym only.0) broken)
fails_same size n b m only (integers broken) = integers (rw (sym only.0) broken)
fails_same size n b m only (texts fails) = texts (rw (sym only.0, sym only.1) fails)
fails_same size n b m only (entries fails) = entries (rw (sym only.1, sym only.2) fails)
fails_same size n b m only (places lengths sized are broken) = places lengths sized (rw (sym only.1, sym only.2) are) (rw (sym only.0) broken)
fails_same size n b m only (index lengths numbers place sized are counted spelled has above) = index lengths numbers place sized (rw (sym only.1, sym only.2) are) counted (rw (sym only.0) spelled) has above

module _ {F : Type 0} (rest : F → ℕ → Option (List ℕ)) (fed : F → List Taken → F → Type 0) (count : F → ℕ) (plan : ColumnPlan)
    (lost : (first last : F) (takes : List Taken) (stream : ℕ) → fed first takes last → Lost (taken_of stream takes) (rest first stream) (rest last stream))
    (nothing : (feed : F) → fed feed [] feed) (joined : (first between last : F) (xs ys : List Taken) → fed first xs between → fed between ys last → fed first (xs ++ ys) last)
    (differ : StreamsDiffer plan) where
  nothing_left : (feed : F) (s : Streams) → Tells rest feed plan s → plan.present ≡ None → s.present ≡ []
  nothing_left feed s tells lacks =
      let told : Some [] ≡ Some s.present = ap (λ (w : Option ℕ). rest_in rest feed w) (sym lacks) ∙ tells.present in
      cc

  begins : (feed : F) (s : Streams) → Tells rest feed plan s → PresentBetween (new_present plan.present).state s.present [] [] s.present
  begins feed s tells = present_begins plan.present s.present (nothing_left feed s tells)

  pub standing_judged : (p : PresentOf) (first last : F) (rows standing : ℕ) → ReadsFlags rest fed count (new_present plan.present) p first last rows (Ok standing)
      → Draws rest fed count plan (alone plan.present) first last (StandingRows rows) (NoStandingRows rows) (Ok standing)
  standing_judged p first last rows standing r =
      let drawn = present_draws rest fed count plan lost nothing joined differ (new_present plan.present) p first last rows (Ok r.flags) refl r.fills in
      Draws-ok rest fed count plan lost nothing joined first last _ _ _ _ r.flags standing
      (λ b a tells goes. (goes.0, (r.flags, r.set.0, given_are_present p.state b.present r.flags p.held a.present (goes.1 b.present [] (begins first b tells)), r.set.1))) drawn

  pub standing_broken : (p : PresentOf) (first last : F) (rows : ℕ) (fault : RunFault) → ReadsFlags rest fed count (new_present plan.present) p first last rows (Err fault)
      → Draws {Y = ℕ} rest fed count plan (alone plan.present) first last (StandingRows rows) (NoStandingRows rows) (Err (of_run name.Present fault))
  standing_broken p first last rows fault r =
      let drawn = present_draws rest fed count plan lost nothing joined differ (new_present plan.present) p first last rows (Err fault) refl r.fills in
      Draws-fault rest fed count plan lost nothing joined first last _ _ _ _ (of_run name.Present fault)
      (λ b f tells breaks. (breaks.0, breaks.1, subst (λ (k : ℕ). PresentBreaks b.present k breaks.0) (zero-add rows) (breaks.2 b.present [] (begins first b tells)))) drawn

  -- PRESENT is broken
  pub column_broken : (spelling : Spelling) (first last : F) (rows : ℕ) (fault : ColumnFault) → spelling_of plan.kind plan.encoding ≡ Some spelling
      → Draws {Y = ℕ} rest fed count plan (alone plan.present) first last (StandingRows rows) (NoStandingRows rows) (Err fault)
      → Draws {Y = Unit {0}} rest fed count plan (plan.present ∷ judged_values plan spelling) first last (λ before after u. JudgedColumn plan rows before) (λ before fault. Fails plan before rows fault) (Err fault)
  column_broken spelling first last rows fault spelled d =
      Draws-front rest fed count plan lost nothing joined (judged_values plan spelling) first last _ _ (Err fault)
      (Draws-fault rest fed count plan lost nothing joined first last _ (λ before after u. JudgedColumn plan rows before) _ (λ before fault. Fails plan before rows fault) fault
      (λ b f tells breaks. subst (λ (g : ColumnFault). Fails plan b rows g) (sym breaks.1) (nulls spelling spelled breaks.2)) d)

  -- the rows with a value are known, and the values were judged
  pub column_judged : (spelling : Spelling) (first between last : F) (rows standing : ℕ) (answer : Result (Unit {0}) ColumnFault) → spelling_of plan.kind plan.encoding ≡ Some spelling → ((s : Streams) → Tells rest first plan s → Sized plan s)
      → Draws rest fed count plan (alone plan.present) first between (StandingRows rows) (NoStandingRows rows) (Ok standing)
      → Draws rest fed count plan (judged_values plan spelling) between last (λ before after u. Sized plan before → JudgedValues spelling plan.dictionary_size standing before) (λ before fault. Sized plan before → ValuesFail plan.dictionary_size before standing spelling fault) answer
      → Draws rest fed count plan (plan.present ∷ judged_values plan spelling) first last (λ before after u. JudgedColumn plan rows before) (λ before fault. Fails plan before rows fault) answer
  column_judged spelling first between last rows standing answer spelled lens one two =
      said_so rest fed count plan lost nothing joined differ first last _ _ _ _ answer (λ b a u tells so. column b so.0 so.1 (so.2 (still b so.0 so.1.0 (lens b tells)))) (λ b f tells so. failed b so.0 f so.1 (so.2 (still b so.0 so.1.0 (lens b tells))))
      (Draws-then rest fed count plan lost nothing joined first between last _ _ _ _ standing answer one two)
    where
      still : (b m : Streams) → OnlyPresent b m → Sized plan b → Sized plan m
      still b m only lens = (lens.0 ∙ ap length (sym only.0), lens.1 ∙ ap length (sym only.2))

      column : (b m : Streams) → StandingRows rows b m standing → JudgedValues spelling plan.dictionary_size standing m → JudgedColumn plan rows b
      column b m (only, (flags, counted, are, standing_is)) (standing_values, enough, have) = (
        rows_of flags standing_values,
        length-map (woven flags standing_values) row_value ∙ length-woven flags standing_values ∙ counted,
        record {
          spelling = spelling;
          flags = flags;
          values = standing_values;
          spelled = spelled;
          present = are;
          enough = enough ∙ standing_is;
          standing = values_same spelling plan.dictionary_size b m standing_values only have;
          rows_are = refl;
        },
      )

      failed : (b m : Streams) (f : ColumnFault) → StandingRows rows b m standing → ValuesFail plan.dictionary_size m standing spelling f → Fails plan b rows f
      failed b m f (only, (flags, counted, are, standing_is)) fails =
          values spelling flags spelled counted are (subst (λ (k : ℕ). ValuesFail plan.dictionary_size b k spelling f) standing_is (fails_same plan.dictionary_size standing b m only fails))

  -- ---- what is found

  turns_of : (spelling : Spelling) (takes : List Taken) → spelling_of plan.kind plan.encoding ≡ Some spelling → InTurn (plan.present ∷ judged_values plan spelling) takes → InTurn (judged_streams plan) takes
  turns_of spelling takes spelled turns = subst (λ (s : Option Spelling). InTurn (judged_by plan s) takes) (sym spelled) turns

  module _ (spelling : Spelling) (spelled : spelling_of plan.kind plan.encoding ≡ Some spelling) (first last : F) (rows : ℕ) where
    pub found_none : Draws {Y = Unit {0}} rest fed count plan (plan.present ∷ judged_values plan spelling) first last (λ before after u. JudgedColumn plan rows before) (λ before fault. Fails plan before rows fault) (Ok tt)
        → Judges rest fed count plan rows first last (Ok None)
    found_none d = record {
      takes = d.takes;
      led = d.led;
      own = d.own;
      turns = turns_of spelling d.takes spelled d.turns;
      cause = record { later = d.cause.later; failed = λ f. absurd f };
      failed = tt;
      no_read = tt;
      told = λ s tells. (d.told s tells).2;
    }

    abbrev Broken : ColumnFault → Type 0
    Broken fault = Draws {Y = Unit {0}} rest fed count plan (plan.present ∷ judged_values plan spelling) first last (λ before after u. JudgedColumn plan rows before) (λ before fault. Fails plan before rows fault) (Err fault)

    found_fault : (fault : ColumnFault) → ((s : Streams) → Decided (λ f. Fails plan s rows f) fault → Fails plan s rows fault) → HoldsNoRead fault → Broken fault → Judges rest fed count plan rows first last (Ok (Some fault))
    found_fault fault decided no_read d = record {
      takes = d.takes;
      led = d.led;
      own = d.own;
      turns = turns_of spelling d.takes spelled d.turns;
      cause = record { later = d.cause.later; failed = λ f. absurd f };
      failed = tt;
      no_read = no_read;
      told = λ s tells. decided s (d.told s tells);
    }

    found_nothing : (fault : ColumnFault) → IsReadError fault → Broken fault → Judges rest fed count plan rows first last (Err fault)
    found_nothing fault failed d = record {
      takes = d.takes;
      led = d.led;
      own = d.own;
      turns = turns_of spelling d.takes spelled d.turns;
      cause = d.cause;
      failed = failed;
      no_read = tt;
      told = λ s tells. tt;
    }

    pub found_so : (fault : ColumnFault) → IsJudged fault → Broken fault → Judges rest fed count plan rows first last (found_by fault)
    found_so (Read failed) judged d = found_nothing (Read failed) tt d
    found_so NoMemory judged d = absurd judged
    found_so BadEncoding judged d = found_fault BadEncoding (λ s so. so) tt d
    found_so (Run name fault) judged d = found_fault (Run name fault) (λ s so. so) judged d
    found_so NegativeLength judged d = found_fault NegativeLength (λ s so. so) tt d
    found_so LengthsPastData judged d = found_fault LengthsPastData (λ s so. so) tt d
    found_so IndexOutOfDictionary judged d = found_fault IndexOutOfDictionary (λ s so. so) tt d

  pub bad_encoding : (feed : F) (rows : ℕ) → spelling_of plan.kind plan.encoding ≡ None → Judges rest fed count plan rows feed feed (Ok (Some BadEncoding))
  bad_encoding feed rows lacks = record {
    takes = [];
    led = nothing feed;
    own = tt;
    turns = InTurn-none (judged_streams plan);
    cause = record { later = omega arith; failed = λ f. absurd f };
    failed = tt;
    no_read = tt;
    told = λ s tells. encoding lacks;
  }
