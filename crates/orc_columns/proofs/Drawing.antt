-- How calls on a column's streams follow each other.
use Rattle.std.proofs.Common.{◌≡◌, ◌≢◌, ℕ, ◌+◌, ◌==◌, Bool, false, List, [], ◌∷◌, ◌++◌, length, Option, Some, None, Ok, Err, refl, sym, ◌∙◌, ap, subst, arith, inl, inr}
use Rattle.std.specs.Prelude.{Result, IsErrAnd}
use Rattle.outside.specs.declared.run_fault.RunFault.{RunFault}
use Rattle.outside.specs.declared.run_fault.RunFault.TheVariants as run
use Rattle.outside.specs.Cause.{Rose}
use Rattle.outside.specs.Feed.{Taken, AllOf, Lost, taken_of}
use Rattle.outside.specs.Reading.{Reader, IsReadFault}
use Rattle.outside.specs.Runs.{Between}
use Rattle.outside.specs.Filling.{Continues, BreaksWith}
use Rattle.orc_columns.specs.declared.fault.ColumnFault.{ColumnFault}
use Rattle.orc_columns.specs.declared.fault.ColumnFault.TheVariants.{BadEncoding, Run, NegativeLength, LengthsPastData, IndexOutOfDictionary, Read, NoMemory}
use Rattle.orc_columns.specs.declared.fault.StreamName.{StreamName}
use Rattle.orc_columns.specs.declared.fault.StreamName.TheVariants as name
use Rattle.orc_columns.specs.declared.plan.ColumnPlan.{ColumnPlan}
use Rattle.orc_columns.specs.Column.{Streams}
use Rattle.orc_columns.specs.Draws.{IsOfPlan, AllOfPlan, Differ, StreamsDiffer, Tells, IsReadError, FailedToRead, Decided, Said, Draws, of_run, in_stream, OnlyPresent, OnlyBody, OnlyLengths, GoesOn, BreaksOn}
use Rattle.row_flags.specs.Decoders.{PresentOf}
use Rattle.row_flags.specs.Optional.{rest_in, AllIn, FillsIn}
use Rattle.orc_columns.specs.Turns.{InTurn, alone}
use Rattle.row_flags.specs.Present.{PresentBetween, PresentBreaksWith, PresentContinues, PresentFills}
use Rattle.orc_columns.specs.Present.{PresentGoesOn, PresentBreaksOn}
use Rattle.orc_columns.proofs.Turns.{InTurn-none, InTurn-alone, InTurn-joined, InTurn-front, alone-twice}

-- ---- the streams of a plan

all_of : (plan : ColumnPlan) (stream : ℕ) (takes : List Taken) → IsOfPlan plan stream → AllOf stream takes → AllOfPlan plan takes
all_of plan stream [] is all = tt
all_of plan stream (t ∷ takes) is all = (subst (λ (s : ℕ). IsOfPlan plan s) (sym all.0) is, all_of plan stream takes is all.1)

-- the takes of one of a plan's streams are of the plan
pub all_in : (plan : ColumnPlan) (which : Option ℕ) (takes : List Taken) → ((stream : ℕ) → which ≡ Some stream → IsOfPlan plan stream) → AllIn which takes → AllOfPlan plan takes
all_in plan None takes is none = subst (λ (ts : List Taken). AllOfPlan plan ts) (sym none) tt
all_in plan (Some stream) takes is all = all_of plan stream takes (is stream refl) all

pub all_joined : (plan : ColumnPlan) (front back : List Taken) → AllOfPlan plan front → AllOfPlan plan back → AllOfPlan plan (front ++ back)
all_joined plan [] back a b = b
all_joined plan (t ∷ front) back a b = (a.0, all_joined plan front back a.1 b)

-- what is taken of one stream isn't taken of another
not_same : (a b other : ℕ) → a ≢ other → b ≡ a → (b == other) ≡ false
not_same a b other differ same = grind (arith, differ, same)

pub none_taken : (stream other : ℕ) (takes : List Taken) → stream ≢ other → AllOf stream takes → taken_of other takes ≡ 0
none_taken stream other [] differ all = refl
none_taken stream other (t ∷ takes) differ all =
    let no : (t.stream == other) ≡ false = not_same stream t.stream other differ all.0 in
    rw no (omega (arith, none_taken stream other takes differ all.1))

some_is : {A : Type 0} (x y : A) → Some x ≡ Some y → x ≡ y
some_is x y e = cc

pub none_lost : (before after : Option (List ℕ)) (bytes : List ℕ) → before ≡ Some bytes → Lost 0 before after → after ≡ Some bytes
none_lost None after bytes told lost = absurd (let no : None ≡ Some bytes = told in cc)
none_lost (Some whole) None bytes told lost = absurd lost
none_lost (Some whole) (Some left) bytes told lost = ap (λ (b : List ℕ). Some b) (lost.1 ∙ some_is whole bytes told)

-- ---- faults

read_is : (name : StreamName) (fault : RunFault) → IsReadError (of_run name fault) → IsReadFault fault
read_is name (run.Read failed) is = tt
read_is name run.StreamEnds is = absurd is
read_is name run.LongVarint is = absurd is
read_is name run.PatchOutOfRun is = absurd is
read_is name run.PatchTooWide is = absurd is

-- what a decided fault says, said in other words
pub Decided-map : (A B : ColumnFault → Type 0) → ((fault : ColumnFault) → A fault → B fault) → (fault : ColumnFault) → Decided A fault → Decided B fault
Decided-map A B f (Read failed) a = tt
Decided-map A B f NoMemory a = tt
Decided-map A B f BadEncoding a = f BadEncoding a
Decided-map A B f (Run name fault) a = f (Run name fault) a
Decided-map A B f NegativeLength a = f NegativeLength a
Decided-map A B f LengthsPastData a = f LengthsPastData a
Decided-map A B f IndexOutOfDictionary a = f IndexOutOfDictionary a

module _ {F : Type 0} (rest : F → ℕ → Option (List ℕ)) (fed : F → List Taken → F → Type 0) (count : F → ℕ) (plan : ColumnPlan)
    (lost : (first last : F) (takes : List Taken) (stream : ℕ) → fed first takes last → Lost (taken_of stream takes) (rest first stream) (rest last stream)) where
  -- a stream from which nothing was taken has the bytes that it had
  pub untouched : (which other : Option ℕ) (first last : F) (takes : List Taken) (bytes : List ℕ) → Differ which other → fed first takes last → AllIn which takes → rest_in rest first other ≡ Some bytes → rest_in rest last other ≡ Some bytes
  untouched which None first last takes bytes differ led own told = told
  untouched None (Some other) first last takes bytes differ led own told =
      let gone : Lost (taken_of other takes) (rest first other) (rest last other) = lost first last takes other led in
      none_lost (rest first other) (rest last other) bytes told (subst (λ (ts : List Taken). Lost (taken_of other ts) (rest first other) (rest last other)) own gone)
  untouched (Some stream) (Some other) first last takes bytes differ led own told =
      let gone : Lost (taken_of other takes) (rest first other) (rest last other) = lost first last takes other led in
      none_lost (rest first other) (rest last other) bytes told (subst (λ (n : ℕ). Lost n (rest first other) (rest last other)) (none_taken stream other takes (λ e. differ stream refl (ap (λ (n : ℕ). Some n) (sym e))) own) gone)

  module _ (nothing : (feed : F) → fed feed [] feed) (joined : (first between last : F) (xs ys : List Taken) → fed first xs between → fed between ys last → fed first (xs ++ ys) last) where
    -- nothing was done
    pub Draws-done : {Y : Type 0} {turns : List (Option ℕ)} (feed : F) (Goes : Streams → Streams → Y → Type 0) (Faults : Streams → ColumnFault → Type 0) (y : Y) → ((s : Streams) → Tells rest feed plan s → Goes s s y) → Draws rest fed count plan turns feed feed Goes Faults (Ok y)
    Draws-done {turns} feed Goes Faults y goes = record {
      takes = [];
      led = nothing feed;
      own = tt;
      turns = InTurn-none turns;
      cause = record { later = omega arith; failed = λ f. absurd f };
      told = λ before tells. (before, tells, goes before tells);
    }

    -- nothing was done but to refuse
    pub Draws-refused : {Y : Type 0} {turns : List (Option ℕ)} (feed : F) (Goes : Streams → Streams → Y → Type 0) (Faults : Streams → ColumnFault → Type 0) (fault : ColumnFault) → (IsReadError fault → ⊥) → ((s : Streams) → Tells rest feed plan s → Decided (Faults s) fault) → Draws rest fed count plan turns feed feed Goes Faults (Err fault)
    Draws-refused {turns} feed Goes Faults fault no_read faults = record {
      takes = [];
      led = nothing feed;
      own = tt;
      turns = InTurn-none turns;
      cause = record { later = omega arith; failed = λ f. absurd (no_read f) };
      told = faults;
    }

    -- nothing was done for want of memory
    pub Draws-no_memory : {Y : Type 0} {turns : List (Option ℕ)} (feed : F) (Goes : Streams → Streams → Y → Type 0) (Faults : Streams → ColumnFault → Type 0) → Draws rest fed count plan turns feed feed Goes Faults (Err NoMemory)
    Draws-no_memory feed Goes Faults = Draws-refused feed Goes Faults NoMemory (λ no. no) (λ s tells. tt)

    Said-then : {X Y : Type 0} (between last : F) (Goes : Streams → Streams → X → Type 0) (More : Streams → Streams → Y → Type 0) (Breaks' : Streams → ColumnFault → Type 0) (before : Streams) (x : X) (answer : Result Y ColumnFault)
        → (m : Streams) × Tells rest between plan m × Goes before m x → ((s : Streams) → Tells rest between plan s → Said rest fed count plan More Breaks' s last answer)
        → Said rest fed count plan (λ b a y. (m : Streams) × Goes b m x × More m a y) (λ b f. (m : Streams) × Goes b m x × Breaks' m f) before last answer
    Said-then between last Goes More Breaks' before x (Ok y) (m, tells, goes) next =
        let on = next m tells in
        (on.0, on.1, (m, goes, on.2))
    Said-then between last Goes More Breaks' before x (Err fault) (m, tells, goes) next = Decided-map (Breaks' m) (λ f. (m : Streams) × Goes before m x × Breaks' m f) (λ f b. (m, goes, b)) fault (next m tells)

    -- one call, and then another
    pub Draws-then : {X Y : Type 0} {some others : List (Option ℕ)} (first between last : F) (Goes : Streams → Streams → X → Type 0) (More : Streams → Streams → Y → Type 0) (Faults Faults' : Streams → ColumnFault → Type 0) (x : X) (answer : Result Y ColumnFault)
        → Draws rest fed count plan some first between Goes Faults (Ok x) → Draws rest fed count plan others between last More Faults' answer
        → Draws rest fed count plan (some ++ others) first last (λ b a y. (m : Streams) × Goes b m x × More m a y) (λ b f. (m : Streams) × Goes b m x × Faults' m f) answer
    Draws-then {some} {others} first between last Goes More Faults Faults' x answer one two = record {
      takes = one.takes ++ two.takes;
      led = joined first between last one.takes two.takes one.led two.led;
      own = all_joined plan one.takes two.takes one.own two.own;
      turns = InTurn-joined some others one.takes two.takes one.turns two.turns;
      cause = record { later = omega (arith, one.cause.later, two.cause.later); failed = λ f. rose (two.cause.failed f) };
      told = λ before tells. Said-then between last Goes More Faults' before x answer (one.told before tells) two.told;
    }
      where
        rose : Rose (count between) (count last) → Rose (count first) (count last)
        rose (inl less) = inl (omega (arith, one.cause.later))
        rose (inr most) = inr most

    -- the same said in other words
    pub Draws-ok : {X Y : Type 0} {turns : List (Option ℕ)} (first last : F) (Goes : Streams → Streams → X → Type 0) (Other : Streams → Streams → Y → Type 0) (Faults Faults' : Streams → ColumnFault → Type 0) (x : X) (y : Y)
        → ((b a : Streams) → Tells rest first plan b → Goes b a x → Other b a y) → Draws rest fed count plan turns first last Goes Faults (Ok x) → Draws rest fed count plan turns first last Other Faults' (Ok y)
    Draws-ok first last Goes Other Faults Faults' x y goes d = record {
      takes = d.takes;
      led = d.led;
      own = d.own;
      turns = d.turns;
      cause = record { later = d.cause.later; failed = λ f. absurd f };
      told = λ before tells. let on = d.told before tells in (on.0, on.1, goes before on.0 tells on.2);
    }

    pub Draws-fault : {X Y : Type 0} {turns : List (Option ℕ)} (first last : F) (Goes : Streams → Streams → X → Type 0) (Other : Streams → Streams → Y → Type 0) (Faults Faults' : Streams → ColumnFault → Type 0) (fault : ColumnFault)
        → ((b : Streams) (f : ColumnFault) → Tells rest first plan b → Faults b f → Faults' b f) → Draws {Y = X} rest fed count plan turns first last Goes Faults (Err fault) → Draws {Y = Y} rest fed count plan turns first last Other Faults' (Err fault)
    Draws-fault first last Goes Other Faults Faults' fault faults d = record {
      takes = d.takes;
      led = d.led;
      own = d.own;
      turns = d.turns;
      cause = d.cause;
      told = λ before tells. Decided-map (Faults before) (Faults' before) (λ f. faults before f tells) fault (d.told before tells);
    }

    -- a fault that isn't the feed's is decided, or for want of memory
    pub Draws-stops : {X Y : Type 0} {turns : List (Option ℕ)} (first last : F) (Goes : Streams → Streams → X → Type 0) (Other : Streams → Streams → Y → Type 0) (Faults Faults' : Streams → ColumnFault → Type 0) (x : X) (fault : ColumnFault)
        → (IsReadError fault → ⊥) → ((b a : Streams) → Tells rest first plan b → Goes b a x → Decided (Faults' b) fault) → Draws rest fed count plan turns first last Goes Faults (Ok x) → Draws rest fed count plan turns first last Other Faults' (Err fault)
    Draws-stops first last Goes Other Faults Faults' x fault no_read faults d = record {
      takes = d.takes;
      led = d.led;
      own = d.own;
      turns = d.turns;
      cause = record { later = d.cause.later; failed = λ f. absurd (no_read f) };
      told = λ before tells. let on = d.told before tells in faults before on.0 tells on.2;
    }

    -- the same takes, said to be of other streams
    Draws-turns : {Y : Type 0} {turns others : List (Option ℕ)} (first last : F) (Goes : Streams → Streams → Y → Type 0) (Faults : Streams → ColumnFault → Type 0) (answer : Result Y ColumnFault)
        → ((takes : List Taken) → InTurn turns takes → InTurn others takes) → Draws rest fed count plan turns first last Goes Faults answer → Draws rest fed count plan others first last Goes Faults answer
    Draws-turns first last Goes Faults answer turn d = record { takes = d.takes; led = d.led; own = d.own; turns = turn d.takes d.turns; cause = d.cause; told = d.told }

    -- of the streams behind nothing was taken
    pub Draws-front : {Y : Type 0} {turns : List (Option ℕ)} (others : List (Option ℕ)) (first last : F) (Goes : Streams → Streams → Y → Type 0) (Faults : Streams → ColumnFault → Type 0) (answer : Result Y ColumnFault)
        → Draws rest fed count plan turns first last Goes Faults answer → Draws rest fed count plan (turns ++ others) first last Goes Faults answer
    Draws-front {turns = turns} others first last Goes Faults answer d = Draws-turns first last Goes Faults answer (λ takes a. InTurn-front turns others takes a) d

    -- a stream, and then the same stream
    pub Draws-again : {Y : Type 0} (stream : Option ℕ) (first last : F) (Goes : Streams → Streams → Y → Type 0) (Faults : Streams → ColumnFault → Type 0) (answer : Result Y ColumnFault)
        → Draws rest fed count plan (stream ∷ alone stream) first last Goes Faults answer → Draws rest fed count plan (alone stream) first last Goes Faults answer
    Draws-again stream first last Goes Faults answer d = Draws-turns first last Goes Faults answer (λ takes a. alone-twice stream takes a) d

    -- ---- a decoder's step

    module _ (differ : StreamsDiffer plan) where
      broken_in : {V : Type 0} (Form : List ℕ → List V → Type 0) (read : Reader (List V)) (which : StreamName) (old : List V) (asked : ℕ) (before : List ℕ) (fault : RunFault)
          → ((start : List ℕ) (given : List V) → Between Form start given old before → BreaksWith Form read start (length given + asked) fault) → Decided (λ f. BreaksOn Form read which old asked before f) (of_run which fault)
      broken_in Form read which old asked before (run.Read failed) breaks = tt
      broken_in Form read which old asked before run.StreamEnds breaks = (run.StreamEnds, refl, breaks)
      broken_in Form read which old asked before run.LongVarint breaks = (run.LongVarint, refl, breaks)
      broken_in Form read which old asked before run.PatchOutOfRun breaks = (run.PatchOutOfRun, refl, breaks)
      broken_in Form read which old asked before run.PatchTooWide breaks = (run.PatchTooWide, refl, breaks)

      failed_in : {V : Type 0} (which : StreamName) (answer : Result (List V) RunFault) → FailedToRead (in_stream which answer) → IsErrAnd answer IsReadFault
      failed_in which (Ok values) f = absurd f
      failed_in which (Err fault) f = read_is which fault f

      pub body_draws : {V : Type 0} (Form : List ℕ → List V → Type 0) (read : Reader (List V)) (first last : F) (old new : List V) (asked : ℕ) (answer : Result (List V) RunFault) → FillsIn rest fed count Form read plan.body first last old new asked answer
          → Draws rest fed count plan (alone plan.body) first last (λ b a values. OnlyBody b a × GoesOn Form old new b.body a.body values) (λ b fault. BreaksOn Form read name.Body old asked b.body fault) (in_stream name.Body answer)
      body_draws {V} Form read first last old new asked answer filled = record {
        takes = filled.takes;
        led = filled.led;
        own = all_in plan plan.body filled.takes (λ stream is. inr (inl is)) filled.own;
        turns = InTurn-alone plan.body filled.takes filled.own;
        cause = record { later = filled.cause.later; failed = λ f. filled.cause.failed (failed_in name.Body answer f) };
        told = λ before tells. said before tells answer (filled.told before.body tells.body);
      }
        where
          said : (before : Streams) → Tells rest first plan before → (answer : Result (List V) RunFault) → Continues Form read old new asked before.body (rest_in rest last plan.body) answer
              → Said rest fed count plan (λ b a values. OnlyBody b a × GoesOn Form old new b.body a.body values) (λ b fault. BreaksOn Form read name.Body old asked b.body fault) before last (in_stream name.Body answer)
          said before tells (Ok values) (left, is, goes) = (
            record before { body = left },
            record {
              present = untouched plan.body plan.present first last filled.takes before.present (λ s a b. differ.present_body s b a) filled.led filled.own tells.present;
              body = is;
              lengths = untouched plan.body plan.length first last filled.takes before.lengths differ.body_length filled.led filled.own tells.lengths;
              dictionary = untouched plan.body plan.dictionary first last filled.takes before.dictionary differ.body_dictionary filled.led filled.own tells.dictionary;
            },
            ((refl, refl, refl), goes),
          )
          said before tells (Err fault) breaks = broken_in Form read name.Body old asked before.body fault breaks

      pub length_draws : {V : Type 0} (Form : List ℕ → List V → Type 0) (read : Reader (List V)) (first last : F) (old new : List V) (asked : ℕ) (answer : Result (List V) RunFault) → FillsIn rest fed count Form read plan.length first last old new asked answer
          → Draws rest fed count plan (alone plan.length) first last (λ b a values. OnlyLengths b a × GoesOn Form old new b.lengths a.lengths values) (λ b fault. BreaksOn Form read name.Length old asked b.lengths fault) (in_stream name.Length answer)
      length_draws {V} Form read first last old new asked answer filled = record {
        takes = filled.takes;
        led = filled.led;
        own = all_in plan plan.length filled.takes (λ stream is. inr (inr (inl is))) filled.own;
        turns = InTurn-alone plan.length filled.takes filled.own;
        cause = record { later = filled.cause.later; failed = λ f. filled.cause.failed (failed_in name.Length answer f) };
        told = λ before tells. said before tells answer (filled.told before.lengths tells.lengths);
      }
        where
          said : (before : Streams) → Tells rest first plan before → (answer : Result (List V) RunFault) → Continues Form read old new asked before.lengths (rest_in rest last plan.length) answer
              → Said rest fed count plan (λ b a values. OnlyLengths b a × GoesOn Form old new b.lengths a.lengths values) (λ b fault. BreaksOn Form read name.Length old asked b.lengths fault) before last (in_stream name.Length answer)
          said before tells (Ok values) (left, is, goes) = (
            record before { lengths = left },
            record {
              present = untouched plan.length plan.present first last filled.takes before.present (λ s a b. differ.present_length s b a) filled.led filled.own tells.present;
              body = untouched plan.length plan.body first last filled.takes before.body (λ s a b. differ.body_length s b a) filled.led filled.own tells.body;
              lengths = is;
              dictionary = untouched plan.length plan.dictionary first last filled.takes before.dictionary differ.length_dictionary filled.led filled.own tells.dictionary;
            },
            ((refl, refl, refl), goes),
          )
          said before tells (Err fault) breaks = broken_in Form read name.Length old asked before.lengths fault breaks

      present_broken : (old : PresentOf) (asked : ℕ) (before : List ℕ) (fault : RunFault)
          → ((start : List ℕ) (given : List Bool) → PresentBetween old.state start given old.held before → PresentBreaksWith start (length given + asked) fault) → Decided (PresentBreaksOn old asked before) (of_run name.Present fault)
      present_broken old asked before (run.Read failed) breaks = tt
      present_broken old asked before run.StreamEnds breaks = (run.StreamEnds, refl, breaks)
      present_broken old asked before run.LongVarint breaks = (run.LongVarint, refl, breaks)
      present_broken old asked before run.PatchOutOfRun breaks = (run.PatchOutOfRun, refl, breaks)
      present_broken old asked before run.PatchTooWide breaks = (run.PatchTooWide, refl, breaks)

      pub present_draws : (old new : PresentOf) (first last : F) (asked : ℕ) (answer : Result (List Bool) RunFault) → old.stream ≡ plan.present → PresentFills rest fed count old new first last asked answer
          → Draws rest fed count plan (alone plan.present) first last (λ b a flags. OnlyPresent b a × PresentGoesOn old new b.present a.present flags) (λ b fault. PresentBreaksOn old asked b.present fault) (in_stream name.Present answer)
      present_draws old new first last asked answer stream_is filled = record {
        takes = filled.takes;
        led = filled.led;
        own = all_in plan plan.present filled.takes (λ stream is. inl is) own;
        turns = InTurn-alone plan.present filled.takes own;
        cause = record { later = filled.cause.later; failed = λ f. filled.cause.failed (failed_in name.Present answer f) };
        told = λ before tells. said before tells answer (subst (λ (s : Option ℕ). PresentContinues old new asked before.present (rest_in rest last s) answer) stream_is (filled.told before.present (rw stream_is tells.present)));
      }
        where
          own : AllIn plan.present filled.takes
          own = subst (λ (s : Option ℕ). AllIn s filled.takes) stream_is filled.own

          said : (before : Streams) → Tells rest first plan before → (answer : Result (List Bool) RunFault) → PresentContinues old new asked before.present (rest_in rest last plan.present) answer
              → Said rest fed count plan (λ b a flags. OnlyPresent b a × PresentGoesOn old new b.present a.present flags) (λ b fault. PresentBreaksOn old asked b.present fault) before last (in_stream name.Present answer)
          said before tells (Ok flags) (left, is, goes) = (
            record before { present = left },
            record {
              present = is;
              body = untouched plan.present plan.body first last filled.takes before.body differ.present_body filled.led own tells.body;
              lengths = untouched plan.present plan.length first last filled.takes before.lengths differ.present_length filled.led own tells.lengths;
              dictionary = untouched plan.present plan.dictionary first last filled.takes before.dictionary differ.present_dictionary filled.led own tells.dictionary;
            },
            ((refl, refl, refl), goes),
          )
          said before tells (Err fault) breaks = present_broken old asked before.present fault breaks
