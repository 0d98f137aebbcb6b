-- Columns are opened and started, one after the other.
use Rattle.std.proofs.Common.{◌≡◌, ℕ, ◌+◌, List, [], ◌∷◌, ◌++◌, length, Option, None, Ok, Err, refl, sym, ◌∙◌, ap, arith, inl, inr}
use Rattle.std.specs.Prelude.{Result, IfOk, IfErr}
use Rattle.outside.specs.declared.file_ref.FileRef.{FileRef}
use Rattle.outside.specs.Cause.{Cause, Rose}
use Rattle.outside.specs.Feed.{Taken}
use Rattle.outside.specs.Files.{Files, HasBytes}
use Rattle.outside.specs.Reading.{placed}
use Rattle.orc_columns.specs.declared.fault.ColumnFault.{ColumnFault}
use Rattle.orc_columns.specs.declared.fault.ColumnFault.TheVariants.{BadEncoding, Run, NegativeLength, LengthsPastData, IndexOutOfDictionary, Read, NoMemory}
use Rattle.orc_columns.specs.declared.plan.ColumnPlan.{ColumnPlan}
use Rattle.orc_columns.specs.Column.{Streams, Fails}
use Rattle.orc_columns.specs.Draws.{Tells, FailedToRead, Decided, Said, Draws}
use Rattle.orc_columns.specs.Laws.{LeaveAColumn}
use Rattle.orc_columns.specs.Midway.{ReaderOf, Midway}
use Rattle.orc_columns.specs.Reader.{Begins, FailsAtStart}
use Rattle.orc_columns.specs.Turns.{start_streams}
use Rattle.orc_streams.specs.declared.layout.ColumnLayout.{ColumnLayout}
use Rattle.orc_streams.specs.declared.layout.ReadColumn.{ReadColumn}
use Rattle.orc_tail.specs.declared.stripe_footer.StripeFooter.{StripeFooter}
use Rattle.orc_streams.specs.declared.stream_reader.OpenFault.{OpenFault}
use Rattle.orc_streams.specs.declared.stream_reader.OpenFault.TheVariants as open_fault
use Rattle.orc_streams.specs.Acts.{Act, take_acts, FailedToOpen}
use Rattle.orc_streams.specs.Laws.{PlansAreApart}
use Rattle.orc_streams.specs.Layout.{plan_at, plans_from, streams_in}
use Rattle.orc_streams.specs.Openings.{spans_of, openings_at, OpensAll}
use Rattle.orc_batches.specs.Batches.{plans_of, AllFresh}
use Rattle.orc_batches.specs.Walk.{EachMidway, OneFailsWithin}
use Rattle.orc_rows.specs.Starting.{layouts_in, starts_in, StartActs, of_opening, StartEnds, EachStartActs, EachStartEnds, StartSaid, Starts, EachStartSaid, EachStarts}

module _ {S : Type 0} (did : S → List Act → S → Type 0) (rest : S → ℕ → Option (List ℕ)) (fed : S → List Taken → S → Type 0) (count : S → ℕ) (files : Option Files) (file : FileRef)
    (joins : (first between last : S) (front back : List Act) → did first front between → did between back last → did first (front ++ back) last)
    (did_take : (first last : S) (takes : List Taken) → fed first takes last → did first (take_acts takes) last) where
  -- a column was opened, and its reader started or not
  pub starts : {Y : Type 0} (y : Y) → LeaveAColumn rest fed → PlansAreApart → (index : ℕ) (layout : ColumnLayout) (before between after : S) (answer : Result ReaderOf ColumnFault)
      → OpensAll did rest count files file (spans_of (openings_at index layout)) before between (Ok y)
      → ((bytes : List ℕ) → HasBytes files file bytes → Tells rest between (plan_at index layout) (streams_in bytes layout))
      → ((i : ℕ) (l : ColumnLayout) (s : Streams) → (i ≡ index → ⊥) → Tells rest before (plan_at i l) s → Tells rest between (plan_at i l) s)
      → Draws rest fed count (plan_at index layout) (start_streams (plan_at index layout)) between after Begins (FailsAtStart (plan_at index layout)) answer
      → Starts did rest count files file index layout before after answer
  starts y leave apart index layout before between after answer o tells others d = record {
    acts = o.acts ++ take_acts d.takes;
    by = joins before between after o.acts (take_acts d.takes) o.by (did_take between after d.takes d.led);
    order = order answer;
    ends = ends answer;
    cause = record { later = omega (arith, o.cause.later, d.cause.later); failed = λ f. rose (d.cause.failed f) };
    others = λ i l s differ was. leave (plan_at index layout) (plan_at i l) s between after d.takes (apart index i layout l (λ e. differ (sym e))) d.own d.led (others i l s differ was);
    told = λ bytes has. said answer bytes (d.told (streams_in bytes layout) (tells bytes has));
  }
    where
      rose : Rose (count between) (count after) → Rose (count before) (count after)
      rose (inl less) = inl (omega (arith, o.cause.later))
      rose (inr most) = inr most

      order : (answer : Result ReaderOf ColumnFault) → IfOk answer (λ r. StartActs file index layout (o.acts ++ take_acts d.takes))
      order (Ok r) = record { takes = d.takes; turns = d.turns; acts_are = ap (λ (xs : List Act). xs ++ take_acts d.takes) o.fits }
      order (Err fault) = tt

      ends : (answer : Result ReaderOf ColumnFault) → IfErr answer (λ fault. StartEnds file index layout fault (o.acts ++ take_acts d.takes))
      ends (Ok r) = tt
      ends (Err fault) = StartEnds.opened (record { takes = d.takes; turns = d.turns; acts_are = ap (λ (xs : List Act). xs ++ take_acts d.takes) o.fits })

      said : (answer : Result ReaderOf ColumnFault) (bytes : List ℕ) → Said rest fed count (plan_at index layout) Begins (FailsAtStart (plan_at index layout)) (streams_in bytes layout) after answer
          → StartSaid did rest count files file index layout bytes after answer
      said (Ok r) bytes s = s
      said (Err fault) bytes s = s

  -- a column's streams weren't opened
  pub not_opened : (index : ℕ) (layout : ColumnLayout) (before between : S) (fault : OpenFault)
      → OpensAll {Y = Unit {0}} did rest count files file (spans_of (openings_at index layout)) before between (Err fault)
      → ((i : ℕ) (l : ColumnLayout) (s : Streams) → (i ≡ index → ⊥) → Tells rest before (plan_at i l) s → Tells rest between (plan_at i l) s)
      → Starts did rest count files file index layout before between (Err (of_opening fault))
  not_opened index layout before between fault o others = record {
    acts = o.acts;
    by = o.by;
    order = tt;
    ends = StartEnds.not_opened fault o.fits;
    cause = record { later = o.cause.later; failed = λ f. failed fault o.cause.failed f };
    others = others;
    told = λ bytes has. said fault bytes;
  }
    where
      failed : (fault : OpenFault) → (FailedToOpen {T = Unit {0}} (Err fault) → Rose (count before) (count between)) → FailedToRead {Y = ReaderOf} (Err (of_opening fault)) → Rose (count before) (count between)
      failed (open_fault.Read e) rose f = rose tt
      failed open_fault.NoMemory rose f = absurd f

      said : (fault : OpenFault) (bytes : List ℕ) → StartSaid did rest count files file index layout bytes between (Err (of_opening fault))
      said (open_fault.Read e) bytes = tt
      said open_fault.NoMemory bytes = tt

  -- ---- columns, of which the first has that place

  -- none
  pub none_starts : ((reader : S) → did reader [] reader) → (index : ℕ) (reader : S) → EachStarts did rest count files file index [] reader reader (Ok [])
  none_starts nothing index reader = record {
    acts = [];
    by = nothing reader;
    order = refl;
    ends = tt;
    readers = (refl, tt);
    cause = record { later = omega arith; failed = λ f. absurd f };
    others = λ i l s less tells. tells;
    told = λ bytes has. ([], tt, EachMidway.none);
  }

  pub no_columns : ((reader : S) → did reader [] reader) → (footer : StripeFooter) (index : ℕ) (columns : List ReadColumn) (reader : S) → length columns ≡ 0
      → EachStarts did rest count files file index (layouts_in footer columns) reader reader (Ok [])
  no_columns nothing footer index [] reader e = none_starts nothing index reader
  no_columns nothing footer index (c ∷ cs) reader e = absurd (omega (arith, e))

  decided_here : (index : ℕ) (layout : ColumnLayout) (layouts : List ColumnLayout) (bytes : List ℕ) (fault : ColumnFault) → Decided (Fails (plan_at index layout) (streams_in bytes layout) 0) fault
      → Decided (OneFailsWithin 0 (plans_from index (layout ∷ layouts)) (starts_in bytes (layout ∷ layouts))) fault
  decided_here index layout layouts bytes (Read failed) d = tt
  decided_here index layout layouts bytes NoMemory d = tt
  decided_here index layout layouts bytes BadEncoding d = OneFailsWithin.here 0 (omega arith) d
  decided_here index layout layouts bytes (Run name fault) d = OneFailsWithin.here 0 (omega arith) d
  decided_here index layout layouts bytes NegativeLength d = OneFailsWithin.here 0 (omega arith) d
  decided_here index layout layouts bytes LengthsPastData d = OneFailsWithin.here 0 (omega arith) d
  decided_here index layout layouts bytes IndexOutOfDictionary d = OneFailsWithin.here 0 (omega arith) d

  decided_later : (index : ℕ) (layout : ColumnLayout) (layouts : List ColumnLayout) (bytes : List ℕ) (fault : ColumnFault)
      → Decided (OneFailsWithin 0 (plans_from (index + 1) layouts) (starts_in bytes layouts)) fault
      → Decided (OneFailsWithin 0 (plans_from index (layout ∷ layouts)) (starts_in bytes (layout ∷ layouts))) fault
  decided_later index layout layouts bytes (Read failed) d = tt
  decided_later index layout layouts bytes NoMemory d = tt
  decided_later index layout layouts bytes BadEncoding d = OneFailsWithin.later d
  decided_later index layout layouts bytes (Run name fault) d = OneFailsWithin.later d
  decided_later index layout layouts bytes NegativeLength d = OneFailsWithin.later d
  decided_later index layout layouts bytes LengthsPastData d = OneFailsWithin.later d
  decided_later index layout layouts bytes IndexOutOfDictionary d = OneFailsWithin.later d

  module _ (index : ℕ) (layout : ColumnLayout) (layouts : List ColumnLayout) (before between : S) where
    -- the first is refused
    pub first_fails : (fault : ColumnFault) → Starts did rest count files file index layout before between (Err fault)
        → EachStarts did rest count files file index (layout ∷ layouts) before between (Err fault)
    first_fails fault s = record {
      acts = s.acts;
      by = s.by;
      order = tt;
      ends = EachStartEnds.here s.ends;
      readers = tt;
      cause = record { later = s.cause.later; failed = λ f. s.cause.failed f };
      others = λ i l t less tells. s.others i l t (λ e. omega (arith, e, less)) tells;
      told = λ bytes has. decided_here index layout layouts bytes fault (s.told bytes has);
    }

    -- there is no room for its reader
    pub first_refused : (r : ReaderOf) → Starts did rest count files file index layout before between (Ok r)
        → EachStarts did rest count files file index (layout ∷ layouts) before between (Err NoMemory)
    first_refused r s = record {
      acts = s.acts;
      by = s.by;
      order = tt;
      ends = EachStartEnds.here (StartEnds.opened s.order);
      readers = tt;
      cause = record { later = s.cause.later; failed = λ f. absurd f };
      others = λ i l t less tells. s.others i l t (λ e. omega (arith, e, less)) tells;
      told = λ bytes has. tt;
    }

    -- it is started, and then the others are, or one of them is refused
    pub first_starts : {Y : Type 0} (after : S) (r : ReaderOf) (rs : List ReaderOf) (answer : Result Y ColumnFault) → r.plan ≡ plan_at index layout → r.fault ≡ None
        → Starts did rest count files file index layout before between (Ok r) → EachStarts did rest count files file (index + 1) layouts between after (placed rs answer)
        → EachStarts did rest count files file index (layout ∷ layouts) before after (placed (r ∷ rs) answer)
    first_starts {Y} after r rs answer planned fresh s more = record {
      acts = s.acts ++ more.acts;
      by = joins before between after s.acts more.acts s.by more.by;
      order = order answer more.order;
      ends = ends answer more.ends;
      readers = readers answer more.readers;
      cause = cause answer more.cause;
      others = λ i l t less tells. more.others i l t (omega (arith, less)) (s.others i l t (λ e. omega (arith, e, less)) tells);
      told = λ bytes has. said answer bytes (s.told bytes has) (more.told bytes has);
    }
      where
        rose : Rose (count between) (count after) → Rose (count before) (count after)
        rose (inl less) = inl (omega (arith, s.cause.later))
        rose (inr most) = inr most

        order : (answer : Result Y ColumnFault) → IfOk (placed rs answer) (λ readers. EachStartActs file (index + 1) layouts more.acts)
            → IfOk (placed (r ∷ rs) answer) (λ readers. EachStartActs file index (layout ∷ layouts) (s.acts ++ more.acts))
        order (Ok y) o = (s.acts, more.acts, refl, s.order, o)
        order (Err fault) o = tt

        ends : (answer : Result Y ColumnFault) → IfErr (placed rs answer) (λ fault. EachStartEnds file (index + 1) layouts fault more.acts)
            → IfErr (placed (r ∷ rs) answer) (λ fault. EachStartEnds file index (layout ∷ layouts) fault (s.acts ++ more.acts))
        ends (Ok y) e = tt
        ends (Err fault) e = EachStartEnds.later s.order e

        readers : (answer : Result Y ColumnFault) → IfOk (placed rs answer) (λ readers. (plans_of readers ≡ plans_from (index + 1) layouts) × AllFresh readers)
            → IfOk (placed (r ∷ rs) answer) (λ readers. (plans_of readers ≡ plans_from index (layout ∷ layouts)) × AllFresh readers)
        readers (Ok y) are = (ap (λ (p : ColumnPlan). p ∷ plans_of rs) planned ∙ ap (λ (ps : List ColumnPlan). plan_at index layout ∷ ps) are.0, (fresh, are.1))
        readers (Err fault) are = tt

        cause : (answer : Result Y ColumnFault) → Cause (count between) (count after) (FailedToRead (placed rs answer)) → Cause (count before) (count after) (FailedToRead (placed (r ∷ rs) answer))
        cause (Ok y) c = record { later = omega (arith, s.cause.later, c.later); failed = λ f. absurd f }
        cause (Err fault) c = record { later = omega (arith, s.cause.later, c.later); failed = λ f. rose (c.failed f) }

        said : (answer : Result Y ColumnFault) (bytes : List ℕ) → (left : Streams) × Tells rest between (plan_at index layout) left × Midway r (streams_in bytes layout) [] left
            → EachStartSaid did rest count files file (index + 1) layouts bytes after (placed rs answer)
            → EachStartSaid did rest count files file index (layout ∷ layouts) bytes after (placed (r ∷ rs) answer)
        said (Ok y) bytes (left, tells, midway) (lefts, each, mids) =
            (left ∷ lefts, (more.others index layout left (omega arith) tells, each), EachMidway.next midway refl mids)
        said (Err fault) bytes one fails = decided_later index layout layouts bytes fault fails
