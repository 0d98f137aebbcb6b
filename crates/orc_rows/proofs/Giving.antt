-- A stripe's columns, started and given batch by batch, are its rows.
use Rattle.std.proofs.Common.{◌≡◌, ℕ, ◌+◌, ◌<◌, ◌≤◌, List, [], ◌∷◌, ◌++◌, length, Option, Ok, Err, refl, sym, ◌∙◌, ap, subst, arith, inl, inr}
use Rattle.std.specs.Prelude.{Result, IfOk, IfErr}
use Rattle.outside.specs.declared.file_ref.FileRef.{FileRef}
use Rattle.outside.specs.Cause.{Rose}
use Rattle.outside.specs.Feed.{Taken}
use Rattle.outside.specs.Files.{Files}
use Rattle.orc_columns.specs.declared.fault.ColumnFault.{ColumnFault}
use Rattle.orc_columns.specs.declared.fault.ColumnFault.TheVariants.{BadEncoding, Run, NegativeLength, LengthsPastData, IndexOutOfDictionary, Read, NoMemory}
use Rattle.orc_columns.specs.declared.plan.ColumnPlan.{ColumnPlan}
use Rattle.orc_columns.specs.Column.{Streams, IsColumn}
use Rattle.orc_columns.specs.Draws.{Decided}
use Rattle.orc_columns.specs.Laws.{GivesTheColumn, NeverBoth}
use Rattle.orc_columns.specs.Midway.{ReaderOf}
use Rattle.orc_columns.specs.Turns.{InTurn}
use Rattle.orc_tail.specs.declared.stripe_footer.StripeFooter.{StripeFooter}
use Rattle.orc_streams.specs.declared.layout.ColumnLayout.{ColumnLayout}
use Rattle.orc_streams.specs.declared.layout.ReadColumn.{ReadColumn}
use Rattle.orc_streams.specs.Acts.{Act, take_acts}
use Rattle.orc_streams.specs.Laws.{PlansAreApart}
use Rattle.orc_streams.specs.Layout.{layout_in, plan_at, plans_from, streams_in}
use Rattle.orc_batches.specs.Batch.{Batch, Piece, joined, AreCut}
use Rattle.orc_batches.specs.Batches.{plans_of, kinds_of, round_of, ApartFrom, AllApart, TellsEach}
use Rattle.orc_batches.specs.Walk.{rounds, EachMidway, OneFailsWithin, WalkTurns, WalkCuts, WalkedTo, Eaten, Walked}
use Rattle.orc_rows.specs.Given.{kinds_in, no_rows}
use Rattle.orc_rows.specs.Rows.{HaveValues}
use Rattle.orc_rows.specs.Starting.{layouts_in, starts_in, EachStarts}
use Rattle.orc_rows.specs.Giving.{ColumnActs, ColumnsEnd, GivesSaid, Gives}
use Rattle.orc_rows.proofs.AnyPlace.{column_anywhere}

-- ---- the plans of a footer's columns

pub kinds_are : (footer : StripeFooter) (index : ℕ) (columns : List ReadColumn) → kinds_of (plans_from index (layouts_in footer columns)) ≡ kinds_in columns
kinds_are footer index [] = refl
kinds_are footer index (c ∷ cs) = ap (λ (ks : List ℕ). c.kind ∷ ks) (kinds_are footer (index + 1) cs)

tails : (p q : ColumnPlan) (ps qs : List ColumnPlan) → p ∷ ps ≡ q ∷ qs → ps ≡ qs
tails p q ps qs e = cc

heads : (p q : ColumnPlan) (ps qs : List ColumnPlan) → p ∷ ps ≡ q ∷ qs → p ≡ q
heads p q ps qs e = cc

some_plan : (p : ColumnPlan) (ps : List ColumnPlan) → p ∷ ps ≡ [] → ⊥
some_plan p ps e = cc

pub as_many : (footer : StripeFooter) (index : ℕ) (columns : List ReadColumn) (readers : List ReaderOf) → plans_of readers ≡ plans_from index (layouts_in footer columns) → length readers ≡ length columns
as_many footer index [] [] e = refl
as_many footer index [] (r ∷ rs) e = absurd (some_plan r.plan (plans_of rs) e)
as_many footer index (c ∷ cs) [] e = absurd (some_plan (plan_at index (layout_in footer c)) (plans_from (index + 1) (layouts_in footer cs)) (sym e))
as_many footer index (c ∷ cs) (r ∷ rs) e =
    omega (arith, as_many footer (index + 1) cs rs (tails r.plan (plan_at index (layout_in footer c)) (plans_of rs) (plans_from (index + 1) (layouts_in footer cs)) e))

apart_from : PlansAreApart → (i j : ℕ) (l : ColumnLayout) (ls : List ColumnLayout) → i < j → ApartFrom (plan_at i l) (plans_from j ls)
apart_from law i j l [] less = tt
apart_from law i j l (m ∷ ls) less = (law i j l m (λ e. omega (arith, e, less)), apart_from law i (j + 1) l ls (omega (arith, less)))

pub all_apart : PlansAreApart → (i : ℕ) (ls : List ColumnLayout) → AllApart (plans_from i ls)
all_apart law i [] = tt
all_apart law i (l ∷ ls) = (apart_from law i (i + 1) l ls (omega arith), all_apart law (i + 1) ls)

pub all_apart_now : PlansAreApart → (i : ℕ) (ls : List ColumnLayout) (readers : List ReaderOf) → plans_of readers ≡ plans_from i ls → AllApart (plans_of readers)
all_apart_now law i ls readers e = subst (λ (ps : List ColumnPlan). AllApart ps) (sym e) (all_apart law i ls)

pub kinds_now : (footer : StripeFooter) (index : ℕ) (columns : List ReadColumn) (readers : List ReaderOf) → plans_of readers ≡ plans_from index (layouts_in footer columns)
    → kinds_of (plans_of readers) ≡ kinds_in columns
kinds_now footer index columns readers e = ap (λ (ps : List ColumnPlan). kinds_of ps) e ∙ kinds_are footer index columns

-- ---- their rows

none_each : (footer : StripeFooter) (columns : List ReadColumn) → no_rows (layouts_in footer columns) ≡ no_rows columns
none_each footer [] = refl
none_each footer (c ∷ cs) = ap (λ (b : Batch). [] ∷ b) (none_each footer cs)

have_values : GivesTheColumn → (bytes : List ℕ) (footer : StripeFooter) (n index : ℕ) (columns : List ReadColumn) (readers : List ReaderOf) (values : Batch) (lefts : List Streams)
    → plans_of readers ≡ plans_from index (layouts_in footer columns) → EachMidway n readers (starts_in bytes (layouts_in footer columns)) values lefts → HaveValues bytes footer n columns values
have_values law bytes footer n index [] [] [] [] e mids = tt
have_values law bytes footer n index [] [] [] (s ∷ ss) e mids = elim mids [ ]
have_values law bytes footer n index [] [] (v ∷ vs) lefts e mids = elim mids [ ]
have_values law bytes footer n index [] (r ∷ rs) values lefts e mids = elim mids [ ]
have_values law bytes footer n index (c ∷ cs) [] values lefts e mids = elim mids [ ]
have_values law bytes footer n index (c ∷ cs) (r ∷ rs) [] lefts e mids = elim mids [ ]
have_values law bytes footer n index (c ∷ cs) (r ∷ rs) (v ∷ vs) [] e mids = elim mids [ ]
have_values law bytes footer n index (c ∷ cs) (r ∷ rs) (v ∷ vs) (s ∷ ss) e (EachMidway.next midway count mids) =
    let l = layout_in footer c in
    let same = heads r.plan (plan_at index l) (plans_of rs) (plans_from (index + 1) (layouts_in footer cs)) e in (
      record {
        column = column_anywhere index 0 l (streams_in bytes l) v (subst (λ (p : ColumnPlan). IsColumn p (streams_in bytes l) v) same (law r (streams_in bytes l) v s midway));
        count = count;
      },
      have_values law bytes footer n (index + 1) cs rs vs ss (tails r.plan (plan_at index l) (plans_of rs) (plans_from (index + 1) (layouts_in footer cs)) e) mids,
    )

-- one of them is refused within the rows, so they have none
have_none : NeverBoth → (bytes : List ℕ) (footer : StripeFooter) (rows index : ℕ) (columns : List ReadColumn) (values : Batch) (fault : ColumnFault)
    → OneFailsWithin rows (plans_from index (layouts_in footer columns)) (starts_in bytes (layouts_in footer columns)) fault → HaveValues bytes footer rows columns values → ⊥
have_none law bytes footer rows index [] values fault fails have = elim fails [ ]
have_none law bytes footer rows index (c ∷ cs) [] fault fails have = absurd have
have_none law bytes footer rows index (c ∷ cs) (v ∷ vs) fault (OneFailsWithin.here fewer fits fails) have =
    let l = layout_in footer c in
    law (plan_at index l) (streams_in bytes l) v fewer fault (column_anywhere 0 index l (streams_in bytes l) v have.0.column) (omega (arith, fits, have.0.count)) fails
have_none law bytes footer rows index (c ∷ cs) (v ∷ vs) fault (OneFailsWithin.later fails) have = have_none law bytes footer rows (index + 1) cs vs fault fails have.1

wider : (within rows : ℕ) (plans : List ColumnPlan) (starts : List Streams) (fault : ColumnFault) → within ≤ rows → OneFailsWithin within plans starts fault → OneFailsWithin rows plans starts fault
wider within rows _ _ fault fits (OneFailsWithin.here fewer few fails) = OneFailsWithin.here fewer (omega (arith, few, fits)) fails
wider within rows _ _ fault fits (OneFailsWithin.later fails) = OneFailsWithin.later (wider within rows _ _ fault fits fails)

decided_none : NeverBoth → (bytes : List ℕ) (footer : StripeFooter) (within rows : ℕ) (columns : List ReadColumn) (fault : ColumnFault) → within ≤ rows
    → Decided (OneFailsWithin within (plans_from 0 (layouts_in footer columns)) (starts_in bytes (layouts_in footer columns))) fault
    → Decided (λ _. (values : Batch) → HaveValues bytes footer rows columns values → ⊥) fault
decided_none law bytes footer within rows columns fault fits d = by fault d
  where
    none : (fault : ColumnFault) → OneFailsWithin within (plans_from 0 (layouts_in footer columns)) (starts_in bytes (layouts_in footer columns)) fault
        → (values : Batch) → HaveValues bytes footer rows columns values → ⊥
    none fault d values have = have_none law bytes footer rows 0 columns values fault
        (wider within rows (plans_from 0 (layouts_in footer columns)) (starts_in bytes (layouts_in footer columns)) fault fits d) have

    by : (fault : ColumnFault) → Decided (OneFailsWithin within (plans_from 0 (layouts_in footer columns)) (starts_in bytes (layouts_in footer columns))) fault
        → Decided (λ _. (values : Batch) → HaveValues bytes footer rows columns values → ⊥) fault
    by (Read failed) d = tt
    by NoMemory d = tt
    by BadEncoding d = none BadEncoding d
    by (Run name fault) d = none (Run name fault) d
    by NegativeLength d = none NegativeLength d
    by LengthsPastData d = none LengthsPastData d
    by IndexOutOfDictionary d = none IndexOutOfDictionary d

eaten_unless : (Y : Type 0) (Ate : Type 0) (fault : ColumnFault) → Ate → Eaten {Y = Y} Ate (Err fault)
eaten_unless Y Ate (Read failed) ate = ate
eaten_unless Y Ate NoMemory ate = tt
eaten_unless Y Ate BadEncoding ate = ate
eaten_unless Y Ate (Run name fault) ate = ate
eaten_unless Y Ate NegativeLength ate = ate
eaten_unless Y Ate LengthsPastData ate = ate
eaten_unless Y Ate IndexOutOfDictionary ate = ate

module _ {S C : Type 0} (did : S → List Act → S → Type 0) (rest : S → ℕ → Option (List ℕ)) (fed : S → List Taken → S → Type 0) (count : S → ℕ) (files : Option Files)
    (ate : C → List Piece → C → Type 0) (file : FileRef) (footer : StripeFooter) (columns : List ReadColumn) (rows : ℕ) (never_both : NeverBoth) where
  -- a column wasn't started
  pub not_started : {Y : Type 0} (before between : S) (eater : C) (fault : ColumnFault) → ate eater [] eater
      → EachStarts did rest count files file 0 (layouts_in footer columns) before between (Err fault) → Gives did count files ate file {Y = Y} footer columns rows before between eater eater (Err fault)
  not_started {Y} before between eater fault nothing s = record {
    batches = [];
    eaten = eaten_unless Y (ate eater [] eater) fault nothing;
    cut = tt;
    acts = s.acts;
    by = s.by;
    order = tt;
    ends = ColumnsEnd.not_started s.ends;
    cause = record { later = s.cause.later; failed = λ f. s.cause.failed f };
    given = λ bytes has. decided_none never_both bytes footer 0 rows columns fault (omega arith) (s.told bytes has);
  }

  -- all were started, and their rows given, or not all
  module _ (joins : (first between last : S) (front back : List Act) → did first front between → did between back last → did first (front ++ back) last)
      (did_take : (first last : S) (takes : List Taken) → fed first takes last → did first (take_acts takes) last) (gives_column : GivesTheColumn) where
    pub gives : {Y : Type 0} (before between after : S) (eater eater' : C) (readers new : List ReaderOf) (answer : Result Y ColumnFault) → plans_of new ≡ plans_of readers
        → EachStarts did rest count files file 0 (layouts_in footer columns) before between (Ok readers) → Walked rest fed count ate rows between after eater eater' readers new answer
        → Gives did count files ate file footer columns rows before after eater eater' answer
    gives {Y} before between after eater eater' readers new answer plans s w = record {
      batches = w.batches;
      eaten = w.eaten;
      cut = cut answer w.cuts;
      acts = s.acts ++ take_acts w.takes;
      by = joins before between after s.acts (take_acts w.takes) s.by (did_take between after w.takes w.led);
      order = order answer w.turns;
      ends = ends answer w.turns;
      cause = record { later = omega (arith, s.cause.later, w.cause.later); failed = λ f. rose (w.cause.failed f) };
      given = λ bytes has. given answer bytes (s.told bytes has) (w.told 0 (starts_in bytes (layouts_in footer columns)));
    }
      where
        rose : Rose (count between) (count after) → Rose (count before) (count after)
        rose (inl less) = inl (omega (arith, s.cause.later))
        rose (inr most) = inr most

        cut : (answer : Result Y ColumnFault) → WalkCuts (plans_of readers) rows w.batches answer → IfOk answer (λ y. AreCut (kinds_in columns) rows w.batches)
        cut (Ok y) c = subst (λ (ks : List ℕ). AreCut ks rows w.batches) (ap (λ (ps : List ColumnPlan). kinds_of ps) s.readers.0 ∙ kinds_are footer 0 columns) c
        cut (Err fault) c = tt

        order : (answer : Result Y ColumnFault) → WalkTurns (plans_of readers) w.batches w.takes answer → IfOk answer (λ y. ColumnActs file footer columns w.batches (s.acts ++ take_acts w.takes))
        order (Ok y) turns = record {
          starts = s.acts;
          takes = w.takes;
          acts_are = refl;
          started = s.order;
          turns = subst (λ (ps : List ColumnPlan). InTurn (rounds ps w.batches) w.takes) s.readers.0 turns;
        }
        order (Err fault) turns = tt

        ends : (answer : Result Y ColumnFault) → WalkTurns (plans_of readers) w.batches w.takes answer → IfErr answer (λ fault. ColumnsEnd file footer columns w.batches fault (s.acts ++ take_acts w.takes))
        ends (Ok y) turns = tt
        ends (Err fault) turns = ColumnsEnd.within s.acts w.takes s.order (subst (λ (ps : List ColumnPlan). InTurn (rounds ps w.batches ++ round_of ps) w.takes) s.readers.0 turns)

        given : (answer : Result Y ColumnFault) (bytes : List ℕ)
            → (lefts : List Streams) × TellsEach rest between (plans_from 0 (layouts_in footer columns)) lefts × EachMidway 0 readers (starts_in bytes (layouts_in footer columns)) (no_rows (layouts_in footer columns)) lefts
            → ((befores : List Streams) (given : Batch) → TellsEach rest between (plans_of readers) befores → EachMidway 0 readers (starts_in bytes (layouts_in footer columns)) given befores
            → WalkedTo rest 0 rows after readers new w.batches (starts_in bytes (layouts_in footer columns)) given answer)
            → GivesSaid bytes footer columns rows w.batches answer
        given (Ok y) bytes (lefts, tells, mids) walked =
            let to = walked lefts (no_rows (layouts_in footer columns)) (subst (λ (ps : List ColumnPlan). TellsEach rest between ps lefts) (sym s.readers.0) tells) mids in
            subst (λ (b : Batch). HaveValues bytes footer rows columns (joined b w.batches)) (none_each footer columns)
            (have_values gives_column bytes footer rows 0 columns new (joined (no_rows (layouts_in footer columns)) w.batches) to.0 (plans ∙ s.readers.0)
            (subst (λ (n : ℕ). EachMidway n new (starts_in bytes (layouts_in footer columns)) (joined (no_rows (layouts_in footer columns)) w.batches) to.0) (omega arith) to.2))
        given (Err fault) bytes (lefts, tells, mids) walked =
            let d = walked lefts (no_rows (layouts_in footer columns)) (subst (λ (ps : List ColumnPlan). TellsEach rest between ps lefts) (sym s.readers.0) tells) mids in
            decided_none never_both bytes footer (0 + rows) rows columns fault (omega arith)
            (subst (λ (ps : List ColumnPlan). Decided (OneFailsWithin (0 + rows) ps (starts_in bytes (layouts_in footer columns))) fault) s.readers.0 d)
