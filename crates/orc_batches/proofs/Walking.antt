-- The walk over a stripe's rows goes on by a batch.
use Rattle.std.proofs.Common.{◌≡◌, ℕ, ◌+◌, ◌*◌, ◌<◌, ◌≤◌, List, [], ◌∷◌, ◌++◌, length, Option, Ok, Err, refl, sym, ◌∙◌, ap, subst, arith, inl, inr, append_assoc}
use Rattle.std.specs.Prelude.{◌⊎◌}
use Rattle.std.proofs.lemmas.Bool.{cases_lt}
use Rattle.std.proofs.lemmas.List.{length-append, append-nil}
use Rattle.outside.specs.Cause.{Rose}
use Rattle.outside.specs.Feed.{Taken}
use Rattle.orc_columns.specs.declared.fault.ColumnFault.{ColumnFault}
use Rattle.orc_columns.specs.declared.fault.ColumnFault.TheVariants.{BadEncoding, Run, NegativeLength, LengthsPastData, IndexOutOfDictionary, Read, NoMemory}
use Rattle.orc_columns.specs.declared.plan.ColumnPlan.{ColumnPlan}
use Rattle.orc_columns.specs.Column.{Streams}
use Rattle.orc_columns.specs.Draws.{Decided}
use Rattle.orc_columns.specs.Laws.{JoinInTurn}
use Rattle.orc_columns.specs.Midway.{ReaderOf}
use Rattle.orc_columns.specs.Turns.{InTurn}
use Rattle.orc_batches.specs.Batch.{Batch, Piece, columns, pieces_of, IsBatch, behind, joined, batch_rows, AllWhole, AreCut}
use Rattle.orc_batches.specs.Batches.{plans_of, kinds_of, round_of, EachGoesOn, OneFails, TellsEach, EachDraws}
use Rattle.orc_batches.specs.Walk.{rounds, EachMidway, OneFailsWithin, Eaten, SoFar, Walked}

-- ---- lists of batches

rounds_on : (plans : List ColumnPlan) (front : List Batch) (b : Batch) → rounds plans (front ++ b ∷ []) ≡ rounds plans front ++ round_of plans
rounds_on plans [] b = append-nil (round_of plans)
rounds_on plans (x ∷ front) b =
    ap (λ (streams : List (Option ℕ)). round_of plans ++ streams) (rounds_on plans front b) ∙ sym (append_assoc (round_of plans) (rounds plans front) (round_of plans))

joined_on : (given : Batch) (front : List Batch) (b : Batch) → joined given (front ++ b ∷ []) ≡ behind (joined given front) b
joined_on given [] b = refl
joined_on given (x ∷ front) b = joined_on (behind given x) front b

pieces_on : (front : List Batch) (b : Batch) → pieces_of (front ++ b ∷ []) ≡ pieces_of front ++ columns b ∷ []
pieces_on [] b = refl
pieces_on (x ∷ front) b = ap (λ (ps : List Piece). columns x ∷ ps) (pieces_on front b)

all_whole_on : (kinds : List ℕ) (front : List Batch) (b : Batch) → AllWhole kinds front → IsBatch kinds batch_rows b → AllWhole kinds (front ++ b ∷ [])
all_whole_on kinds [] b all is = (is, tt)
all_whole_on kinds (x ∷ front) b all is = (all.0, all_whole_on kinds front b all.1 is)

-- one whole batch more
whole_on : (kinds : List ℕ) (given more : ℕ) (front : List Batch) (b : Batch) → more ≡ batch_rows → AllWhole kinds front × (given ≡ batch_rows * length front)
    → IsBatch kinds more b → AllWhole kinds (front ++ b ∷ []) × (given + more ≡ batch_rows * length (front ++ b ∷ []))
whole_on kinds given more front b most whole is = (
  all_whole_on kinds front b whole.0 (subst (λ (n : ℕ). IsBatch kinds n b) most is),
  omega (arith, most, whole.1, length-append front (b ∷ [])),
)

-- one batch more, with at most so many rows
cut_on : (kinds : List ℕ) (given more : ℕ) (front : List Batch) (b : Batch) → 0 < more → more ≤ batch_rows → AllWhole kinds front × (given ≡ batch_rows * length front)
    → IsBatch kinds more b → AreCut kinds (given + more) (front ++ b ∷ [])
cut_on kinds given more front b some few whole is = by_rows (cases_lt more batch_rows)
  where
    by_rows : (more < batch_rows) ⊎ (batch_rows ≤ more) → AreCut kinds (given + more) (front ++ b ∷ [])
    by_rows (inl fewer) = AreCut.shorter front b more whole.0 is some fewer (ap (λ (n : ℕ). n + more) whole.1)
    by_rows (inr most) = let on = whole_on kinds given more front b (omega (arith, few, most)) whole is in AreCut.whole on.0 on.1

-- ---- columns behind their rows

pub as_many_plans : (rs : List ReaderOf) → length (plans_of rs) ≡ length rs
as_many_plans [] = refl
as_many_plans (r ∷ rs) = omega (arith, as_many_plans rs)

midway_on : (n more : ℕ) (rs rs' : List ReaderOf) (ss bs afters : List Streams) (gs batch : Batch) → EachGoesOn rs rs' bs afters batch → IsBatch (kinds_of (plans_of rs)) more batch
    → EachMidway n rs ss gs bs → EachMidway (n + more) rs' ss (behind gs batch) afters
midway_on n more _ _ _ _ _ _ _ EachGoesOn.none is EachMidway.none = EachMidway.none
midway_on n more _ _ _ _ _ _ _ (EachGoesOn.next {rows = rows} goes on) is (EachMidway.next {start = start} {rows = given} midway len mids) =
    EachMidway.next (goes start given midway) (length-append given rows ∙ omega (arith, len, is.0)) (midway_on n more _ _ _ _ _ _ _ on is.2 mids)

fails_within : (all n more : ℕ) (rs : List ReaderOf) (ss bs : List Streams) (gs : Batch) (fault : ColumnFault) → n + more ≤ all → OneFails more rs bs fault → EachMidway n rs ss gs bs
    → OneFailsWithin all (plans_of rs) ss fault
fails_within all n more _ _ _ _ fault fits (OneFails.here fails) (EachMidway.next {start = start} {rows = given} midway len mids) =
    OneFailsWithin.here (length given + more) (omega (arith, len, fits)) (fails start given midway)
fails_within all n more _ _ _ _ fault fits (OneFails.later fails) (EachMidway.next midway len mids) = OneFailsWithin.later (fails_within all n more _ _ _ _ fault fits fails mids)

decided_within : (all n more : ℕ) (rs : List ReaderOf) (ss bs : List Streams) (gs : Batch) (fault : ColumnFault) → n + more ≤ all → EachMidway n rs ss gs bs
    → Decided (OneFails more rs bs) fault → Decided (OneFailsWithin all (plans_of rs) ss) fault
decided_within all n more rs ss bs gs (Read failed) fits mids d = tt
decided_within all n more rs ss bs gs NoMemory fits mids d = tt
decided_within all n more rs ss bs gs BadEncoding fits mids d = fails_within all n more rs ss bs gs BadEncoding fits d mids
decided_within all n more rs ss bs gs (Run name fault) fits mids d = fails_within all n more rs ss bs gs (Run name fault) fits d mids
decided_within all n more rs ss bs gs NegativeLength fits mids d = fails_within all n more rs ss bs gs NegativeLength fits d mids
decided_within all n more rs ss bs gs LengthsPastData fits mids d = fails_within all n more rs ss bs gs LengthsPastData fits d mids
decided_within all n more rs ss bs gs IndexOutOfDictionary fits mids d = fails_within all n more rs ss bs gs IndexOutOfDictionary fits d mids

eaten_unless : (Y : Type 0) (Ate : Type 0) (fault : ColumnFault) → Ate → Eaten {Y = Y} Ate (Err fault)
eaten_unless Y Ate (Read failed) ate = ate
eaten_unless Y Ate NoMemory ate = tt
eaten_unless Y Ate BadEncoding ate = ate
eaten_unless Y Ate (Run name fault) ate = ate
eaten_unless Y Ate NegativeLength ate = ate
eaten_unless Y Ate LengthsPastData ate = ate
eaten_unless Y Ate IndexOutOfDictionary ate = ate

module _ {F C : Type 0} (rest : F → ℕ → Option (List ℕ)) (fed : F → List Taken → F → Type 0) (count : F → ℕ) (ate : C → List Piece → C → Type 0) where
  -- nothing was given
  pub begins : ((feed : F) → fed feed [] feed) → ((eater : C) → ate eater [] eater) → (rows : ℕ) (feed : F) (eater : C) (rs : List ReaderOf) → SoFar rest fed count ate rows 0 feed feed eater eater rs rs
  begins nothing ate_nothing rows feed eater rs = record {
    batches = [];
    eaten = ate_nothing eater;
    cut = AreCut.whole tt refl;
    whole = λ less. (tt, refl);
    takes = [];
    led = nothing feed;
    turns = refl;
    later = omega arith;
    told = λ before starts befores given tells mids. (befores, tells, subst (λ (n : ℕ). EachMidway n rs starts given befores) (omega arith) mids);
  }

  module _ (joins : (first between last : F) (xs ys : List Taken) → fed first xs between → fed between ys last → fed first (xs ++ ys) last)
      (ate_on : (first between last : C) (front back : List Piece) → ate first front between → ate between back last → ate first (front ++ back) last) (join : JoinInTurn)
      (rows given more : ℕ) (first between last : F) (eater eater' eater'' : C) (old rs rs' : List ReaderOf) (plans : plans_of rs ≡ plans_of old)
      (less : given < rows) (so : SoFar rest fed count ate rows given first between eater eater' old rs) where
    turns_on : (takes : List Taken) → InTurn (round_of (plans_of rs)) takes → InTurn (rounds (plans_of old) so.batches ++ round_of (plans_of old)) (so.takes ++ takes)
    turns_on takes turns = join (rounds (plans_of old) so.batches) (round_of (plans_of old)) so.takes takes so.turns
        (subst (λ (ps : List ColumnPlan). InTurn (round_of ps) takes) plans turns)

    -- a batch was given
    pub goes_on : (batch : Batch) → 0 < more → more ≤ batch_rows → (given + more < rows → more ≡ batch_rows) → IsBatch (kinds_of (plans_of rs)) more batch
        → EachDraws rest fed count more between last rs rs' (Ok batch) → ate eater' (columns batch ∷ []) eater'' → SoFar rest fed count ate rows (given + more) first last eater eater'' old rs'
    goes_on batch some few most is draws ate_it = record {
      batches = so.batches ++ batch ∷ [];
      eaten = subst (λ (ps : List Piece). ate eater ps eater'') (sym (pieces_on so.batches batch)) (ate_on eater eater' eater'' (pieces_of so.batches) (columns batch ∷ []) so.eaten ate_it);
      cut = cut_on (kinds_of (plans_of old)) given more so.batches batch some few (so.whole less) is_old;
      whole = λ left. whole_on (kinds_of (plans_of old)) given more so.batches batch (most left) (so.whole less) is_old;
      takes = so.takes ++ draws.takes;
      led = joins first between last so.takes draws.takes so.led draws.led;
      turns = subst (λ (streams : List (Option ℕ)). InTurn streams (so.takes ++ draws.takes)) (sym (rounds_on (plans_of old) so.batches batch)) (turns_on draws.takes draws.turns);
      later = omega (arith, so.later, draws.cause.later);
      told = told;
    }
      where
        is_old : IsBatch (kinds_of (plans_of old)) more batch
        is_old = subst (λ (ps : List ColumnPlan). IsBatch (kinds_of ps) more batch) plans is

        told : (before : ℕ) (starts befores : List Streams) (before_rows : Batch) → TellsEach rest first (plans_of old) befores → EachMidway before old starts before_rows befores
            → (afters : List Streams) × TellsEach rest last (plans_of old) afters × EachMidway (before + (given + more)) rs' starts (joined before_rows (so.batches ++ batch ∷ [])) afters
        told before starts befores before_rows tells mids =
            let now = so.told before starts befores before_rows tells mids in
            let on = draws.told now.0 (subst (λ (ps : List ColumnPlan). TellsEach rest between ps now.0) (sym plans) now.1) in
            let gone = midway_on (before + given) more rs rs' starts now.0 on.0 (joined before_rows so.batches) batch on.2 is now.2 in (
              on.0,
              subst (λ (ps : List ColumnPlan). TellsEach rest last ps on.0) plans on.1,
              subst (λ (n : ℕ). EachMidway n rs' starts (joined before_rows (so.batches ++ batch ∷ [])) on.0) (omega arith)
                  (subst (λ (b : Batch). EachMidway (before + given + more) rs' starts b on.0) (sym (joined_on before_rows so.batches batch)) gone),
            )

    -- a batch wasn't given
    pub stops : {Y : Type 0} (fault : ColumnFault) → given + more ≤ rows → EachDraws rest fed count more between last rs rs' (Err fault)
        → Walked rest fed count ate {Y = Y} rows first last eater eater' old rs' (Err fault)
    stops {Y} fault fits draws = record {
      batches = so.batches;
      eaten = eaten_unless Y (ate eater (pieces_of so.batches) eater') fault so.eaten;
      cuts = ((so.whole less).0, omega (arith, (so.whole less).1, less));
      takes = so.takes ++ draws.takes;
      led = joins first between last so.takes draws.takes so.led draws.led;
      turns = turns_on draws.takes draws.turns;
      cause = record { later = omega (arith, so.later, draws.cause.later); failed = λ f. rose (draws.cause.failed f) };
      told = told;
    }
      where
        rose : Rose (count between) (count last) → Rose (count first) (count last)
        rose (inl fewer) = inl (omega (arith, so.later))
        rose (inr most) = inr most

        told : (before : ℕ) (starts befores : List Streams) (before_rows : Batch) → TellsEach rest first (plans_of old) befores → EachMidway before old starts before_rows befores
            → Decided (OneFailsWithin (before + rows) (plans_of old) starts) fault
        told before starts befores before_rows tells mids =
            let now = so.told before starts befores before_rows tells mids in
            let d = draws.told now.0 (subst (λ (ps : List ColumnPlan). TellsEach rest between ps now.0) (sym plans) now.1) in
            subst (λ (ps : List ColumnPlan). Decided (OneFailsWithin (before + rows) ps starts) fault) plans
            (decided_within (before + rows) (before + given) more rs starts now.0 (joined before_rows so.batches) fault (omega (arith, fits)) now.2 d)

    -- the consumer refused a batch
    pub refused : {Y : Type 0} (batch : Batch) → EachDraws rest fed count more between last rs rs' (Ok batch) → Walked rest fed count ate {Y = Y} rows first last eater eater'' old rs' (Err NoMemory)
    refused batch draws = record {
      batches = so.batches;
      eaten = tt;
      cuts = ((so.whole less).0, omega (arith, (so.whole less).1, less));
      takes = so.takes ++ draws.takes;
      led = joins first between last so.takes draws.takes so.led draws.led;
      turns = turns_on draws.takes draws.turns;
      cause = record { later = omega (arith, so.later, draws.cause.later); failed = λ f. absurd f };
      told = λ before starts befores before_rows tells mids. tt;
    }

  -- all rows were given
  pub ends : {Y : Type 0} (rows given : ℕ) (first last : F) (eater eater' : C) (old new : List ReaderOf) (y : Y) → given ≡ rows → SoFar rest fed count ate rows given first last eater eater' old new
      → Walked rest fed count ate rows first last eater eater' old new (Ok y)
  ends rows given first last eater eater' old new y all so = record {
    batches = so.batches;
    eaten = so.eaten;
    cuts = subst (λ (n : ℕ). AreCut (kinds_of (plans_of old)) n so.batches) all so.cut;
    takes = so.takes;
    led = so.led;
    turns = so.turns;
    cause = record { later = so.later; failed = λ f. absurd f };
    told = λ before starts befores before_rows tells mids.
        let now = so.told before starts befores before_rows tells mids in
        (now.0, now.1, subst (λ (n : ℕ). EachMidway (before + n) new starts (joined before_rows so.batches) now.0) all now.2);
  }
