-- Columns are judged, one after the other.
use Rattle.std.proofs.Common.{◌≡◌, ℕ, ◌≤◌, List, [], ◌∷◌, ◌++◌, length, Option, Some, None, Ok, Err, refl, sym, ap, subst, arith, inl, inr, ◌+◌}
use Rattle.std.specs.Prelude.{Result, IfOk, IfSome}
use Rattle.std.proofs.lemmas.List.{append-nil}
use Rattle.outside.specs.declared.failed.Failed.{Failed}
use Rattle.outside.specs.declared.file_ref.FileRef.{FileRef}
use Rattle.outside.specs.Cause.{Rose}
use Rattle.outside.specs.Feed.{Taken}
use Rattle.outside.specs.Files.{Files, HasBytes}
use Rattle.orc_columns.specs.declared.fault.ColumnFault.{ColumnFault}
use Rattle.orc_columns.specs.declared.fault.ColumnFault.TheVariants.{Read}
use Rattle.orc_columns.specs.Column.{Fails}
use Rattle.orc_columns.specs.Draws.{Tells}
use Rattle.orc_columns.specs.FirstFault.{Judges}
use Rattle.orc_tail.specs.declared.stripe_footer.StripeFooter.{StripeFooter}
use Rattle.orc_streams.specs.declared.layout.ColumnLayout.{ColumnLayout}
use Rattle.orc_streams.specs.declared.layout.ReadColumn.{ReadColumn}
use Rattle.orc_streams.specs.declared.stream_reader.OpenFault.{OpenFault}
use Rattle.orc_streams.specs.declared.stream_reader.OpenFault.TheVariants as open_fault
use Rattle.orc_streams.specs.Acts.{Act, take_acts, FailedToOpen}
use Rattle.orc_streams.specs.Layout.{layout_in, plan_at, streams_in}
use Rattle.orc_streams.specs.Openings.{spans_of, openings_at, OpensAll}
use Rattle.orc_rows.specs.declared.judge.Refused.{Refused}
use Rattle.orc_rows.specs.Judging.{IsContent, FindsOne, FindsFirst, JudgeEnds, JudgeOrder, JudgedUpTo, EachJudgeOrder, JudgesOne, JudgesEach}
use Rattle.orc_rows.specs.Rows.{FirstColumnFails}
use Rattle.orc_rows.proofs.AnyPlace.{column_anywhere, fails_anywhere}

module _ {S : Type 0} (did : S → List Act → S → Type 0) (count : S → ℕ) (files : Option Files) (file : FileRef)
    (joins : (first between last : S) (front back : List Act) → did first front between → did between back last → did first (front ++ back) last) where
  rises : (a b c : ℕ) → a ≤ b → Rose b c → Rose a c
  rises a b c later (inl less) = inl (omega (arith, later))
  rises a b c later (inr most) = inr most

  module _ (rest : S → ℕ → Option (List ℕ)) (fed : S → List Taken → S → Type 0) (did_take : (first last : S) (takes : List Taken) → fed first takes last → did first (take_acts takes) last)
      (index : ℕ) (layout : ColumnLayout) (rows : ℕ) (before between after : S) where
    -- its streams weren't opened
    pub not_opened : (fault : OpenFault) → OpensAll {Y = Unit {0}} did rest count files file (spans_of (openings_at index layout)) before between (Err fault)
        → JudgesOne did count files file index layout rows before between (Err fault)
    not_opened fault o = record { acts = o.acts; by = o.by; order = JudgeEnds.not_opened o.fits; cause = record { later = o.cause.later; failed = λ f. o.cause.failed f }; content = tt; told = λ bytes has. tt }

    module _ {Y : Type 0} (y : Y) (o : OpensAll did rest count files file (spans_of (openings_at index layout)) before between (Ok y))
        (tells : (bytes : List ℕ) → HasBytes files file bytes → Tells rest between (plan_at index layout) (streams_in bytes layout)) where
      -- there was no room for runs
      pub no_room : JudgesOne did count files file index layout rows before between (Err open_fault.NoMemory)
      no_room = record {
        acts = o.acts;
        by = o.by;
        order = JudgeEnds.not_opened (record { front = spans_of (openings_at index layout); rest = []; spans_are = sym (append-nil (spans_of (openings_at index layout))); acts_are = o.fits });
        cause = record { later = o.cause.later; failed = λ f. absurd f };
        content = tt;
        told = λ bytes has. tt;
      }

      -- it has values
      pub found_none : Judges rest fed count (plan_at index layout) rows between after (Ok None) → JudgesOne did count files file index layout rows before after (Ok None)
      found_none j = record {
        acts = o.acts ++ take_acts j.takes;
        by = joins before between after o.acts (take_acts j.takes) o.by (did_take between after j.takes j.led);
        order = record { takes = j.takes; turns = j.turns; acts_are = ap (λ (xs : List Act). xs ++ take_acts j.takes) o.fits };
        cause = record { later = omega (arith, o.cause.later, j.cause.later); failed = λ f. absurd f };
        content = tt;
        told = λ bytes has.
            let found = j.told (streams_in bytes layout) (tells bytes has) in
            (found.0, record { column = column_anywhere index 0 layout (streams_in bytes layout) found.0 found.2; count = found.1 });
      }

      -- it is refused
      pub found_fault : (fault : ColumnFault) (answer : Result (Option ColumnFault) OpenFault) → IfOk answer (λ found. found ≡ Some fault) → IfOk answer (λ found. IfSome found IsContent)
          → (FailedToOpen answer → ⊥) → Judges rest fed count (plan_at index layout) rows between after (Ok (Some fault)) → JudgesOne did count files file index layout rows before after answer
      found_fault fault answer found content never j = record {
        acts = o.acts ++ take_acts j.takes;
        by = joins before between after o.acts (take_acts j.takes) o.by (did_take between after j.takes j.led);
        order = order answer;
        cause = record { later = omega (arith, o.cause.later, j.cause.later); failed = λ f. absurd (never f) };
        content = content;
        told = λ bytes has. said answer found bytes (j.told (streams_in bytes layout) (tells bytes has));
      }
        where
          order : (answer : Result (Option ColumnFault) OpenFault) → JudgeOrder file index layout (o.acts ++ take_acts j.takes) answer
          order (Ok found) = record { takes = j.takes; turns = j.turns; acts_are = ap (λ (xs : List Act). xs ++ take_acts j.takes) o.fits }
          order (Err fault) = JudgeEnds.opened (record { takes = j.takes; turns = j.turns; acts_are = ap (λ (xs : List Act). xs ++ take_acts j.takes) o.fits })

          said : (answer : Result (Option ColumnFault) OpenFault) → IfOk answer (λ found. found ≡ Some fault) → (bytes : List ℕ) → Fails (plan_at index layout) (streams_in bytes layout) rows fault
              → IfOk answer (FindsOne bytes layout rows)
          said (Ok found) is bytes fails = subst (λ (f : Option ColumnFault). FindsOne bytes layout rows f) (sym is) (fails_anywhere index 0 layout (streams_in bytes layout) rows fault fails)
          said (Err other) is bytes fails = tt

      -- a take failed
      pub take_failed : (failed : Failed) → Judges rest fed count (plan_at index layout) rows between after (Err (Read failed))
          → JudgesOne did count files file index layout rows before after (Err (open_fault.Read failed))
      take_failed failed j = record {
        acts = o.acts ++ take_acts j.takes;
        by = joins before between after o.acts (take_acts j.takes) o.by (did_take between after j.takes j.led);
        order = JudgeEnds.opened (record { takes = j.takes; turns = j.turns; acts_are = ap (λ (xs : List Act). xs ++ take_acts j.takes) o.fits });
        cause = record { later = omega (arith, o.cause.later, j.cause.later); failed = λ f. rises (count before) (count between) (count after) o.cause.later (j.cause.failed tt) };
        content = tt;
        told = λ bytes has. tt;
      }

      pub take_refused : (fault : ColumnFault) → Judges rest fed count (plan_at index layout) rows between after (Err fault)
          → JudgesOne did count files file index layout rows before after (Err open_fault.NoMemory)
      take_refused fault j = record {
        acts = o.acts ++ take_acts j.takes;
        by = joins before between after o.acts (take_acts j.takes) o.by (did_take between after j.takes j.led);
        order = JudgeEnds.opened (record { takes = j.takes; turns = j.turns; acts_are = ap (λ (xs : List Act). xs ++ take_acts j.takes) o.fits });
        cause = record { later = omega (arith, o.cause.later, j.cause.later); failed = λ f. absurd f };
        content = tt;
        told = λ bytes has. tt;
      }

  -- ---- columns

  module _ (footer : StripeFooter) (rows index : ℕ) where
    pub none_judged : ((reader : S) → did reader [] reader) → (reader : S) → JudgesEach did count files file index footer [] rows reader reader (Ok None)
    none_judged nothing reader = record {
      acts = [];
      by = nothing reader;
      order = refl;
      cause = record { later = omega arith; failed = λ f. absurd f };
      content = tt;
      told = λ bytes has. ([], tt);
    }

    pub no_column_judged : ((reader : S) → did reader [] reader) → (columns : List ReadColumn) (reader : S) → length columns ≡ 0 → JudgesEach did count files file index footer columns rows reader reader (Ok None)
    no_column_judged nothing [] reader e = none_judged nothing reader
    no_column_judged nothing (c ∷ cs) reader e = absurd (omega (arith, e))

    module _ (column : ReadColumn) (columns : List ReadColumn) (before between : S) where
      pub first_unread : (fault : OpenFault) → JudgesOne did count files file index (layout_in footer column) rows before between (Err fault)
          → JudgesEach did count files file index footer (column ∷ columns) rows before between (Err fault)
      first_unread fault j = record { acts = j.acts; by = j.by; order = (column.number, JudgedUpTo.here j.order); cause = record { later = j.cause.later; failed = λ f. j.cause.failed f }; content = tt; told = λ bytes has. tt }

      pub first_refused : (fault : ColumnFault) → JudgesOne did count files file index (layout_in footer column) rows before between (Ok (Some fault))
          → JudgesEach did count files file index footer (column ∷ columns) rows before between (Ok (Some (record { column = column.number; fault = fault })))
      first_refused fault j = record {
        acts = j.acts;
        by = j.by;
        order = JudgedUpTo.here j.order;
        cause = record { later = j.cause.later; failed = λ f. absurd f };
        content = j.content;
        told = λ bytes has. FirstColumnFails.here (j.told bytes has);
      }

      pub first_good : (after : S) (answer : Result (Option Refused) OpenFault) → JudgesOne did count files file index (layout_in footer column) rows before between (Ok None)
          → JudgesEach did count files file (index + 1) footer columns rows between after answer → JudgesEach did count files file index footer (column ∷ columns) rows before after answer
      first_good after answer j more = record {
        acts = j.acts ++ more.acts;
        by = joins before between after j.acts more.acts j.by more.by;
        order = order answer more.order;
        cause = record { later = omega (arith, j.cause.later, more.cause.later); failed = λ f. rises (count before) (count between) (count after) j.cause.later (more.cause.failed f) };
        content = more.content;
        told = λ bytes has. said answer bytes (j.told bytes has) (more.told bytes has);
      }
        where
          order : (answer : Result (Option Refused) OpenFault) → EachJudgeOrder file footer (index + 1) columns more.acts answer
              → EachJudgeOrder file footer index (column ∷ columns) (j.acts ++ more.acts) answer
          order (Ok None) o = (j.acts, more.acts, refl, j.order, o)
          order (Ok (Some refused)) o = JudgedUpTo.later j.order o
          order (Err fault) o = (o.0, JudgedUpTo.later j.order o.1)

          said : (answer : Result (Option Refused) OpenFault) (bytes : List ℕ) → FindsOne bytes (layout_in footer column) rows None → IfOk answer (FindsFirst bytes footer columns rows)
              → IfOk answer (FindsFirst bytes footer (column ∷ columns) rows)
          said (Ok None) bytes one all = (one.0 ∷ all.0, (one.1, all.1))
          said (Ok (Some refused)) bytes one first = FirstColumnFails.later one.0 one.1 first
          said (Err fault) bytes one unread = tt
