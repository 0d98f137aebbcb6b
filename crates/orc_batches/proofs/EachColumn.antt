-- A batch of one column, and then one of each of the others.
use Rattle.std.proofs.Common.{◌≡◌, ℕ, List, [], ◌∷◌, ◌++◌, length, Option, Ok, Err, refl, arith, inl, inr}
use Rattle.std.specs.Prelude.{Result}
use Rattle.outside.specs.Cause.{Cause, Rose}
use Rattle.outside.specs.Feed.{Taken}
use Rattle.outside.specs.Reading.{placed}
use Rattle.orc_values.specs.declared.value.Value.{Value}
use Rattle.orc_columns.specs.declared.fault.ColumnFault.{ColumnFault}
use Rattle.orc_columns.specs.declared.fault.ColumnFault.TheVariants.{BadEncoding, Run, NegativeLength, LengthsPastData, IndexOutOfDictionary, Read, NoMemory}
use Rattle.orc_columns.specs.Column.{Streams}
use Rattle.orc_columns.specs.Draws.{Tells, FailedToRead, Decided, Draws}
use Rattle.orc_columns.specs.Laws.{JoinInTurn, StopInTurn, LeaveAColumn, LeaveAStream}
use Rattle.orc_columns.specs.Midway.{ReaderOf}
use Rattle.orc_columns.specs.Reader.{RowsGoOn, RowsFail}
use Rattle.orc_columns.specs.Turns.{batch_streams}
use Rattle.orc_batches.specs.Batch.{Batch}
use Rattle.orc_batches.specs.Batches.{plans_of, ApartFrom, round_of, EachGoesOn, OneFails, TellsEach, EachSaid, EachDraws}
use Rattle.orc_batches.proofs.LeftAlone.{round_leaves, column_leaves}

here_fails : (rows : ℕ) (r : ReaderOf) (rs : List ReaderOf) (b : Streams) (bs : List Streams) (fault : ColumnFault) → Decided (RowsFail r rows b) fault → Decided (OneFails rows (r ∷ rs) (b ∷ bs)) fault
here_fails rows r rs b bs (Read failed) d = tt
here_fails rows r rs b bs NoMemory d = tt
here_fails rows r rs b bs BadEncoding d = OneFails.here d
here_fails rows r rs b bs (Run name fault) d = OneFails.here d
here_fails rows r rs b bs NegativeLength d = OneFails.here d
here_fails rows r rs b bs LengthsPastData d = OneFails.here d
here_fails rows r rs b bs IndexOutOfDictionary d = OneFails.here d

later_fails : (rows : ℕ) (r : ReaderOf) (rs : List ReaderOf) (b : Streams) (bs : List Streams) (fault : ColumnFault) → Decided (OneFails rows rs bs) fault → Decided (OneFails rows (r ∷ rs) (b ∷ bs)) fault
later_fails rows r rs b bs (Read failed) d = tt
later_fails rows r rs b bs NoMemory d = tt
later_fails rows r rs b bs BadEncoding d = OneFails.later d
later_fails rows r rs b bs (Run name fault) d = OneFails.later d
later_fails rows r rs b bs NegativeLength d = OneFails.later d
later_fails rows r rs b bs LengthsPastData d = OneFails.later d
later_fails rows r rs b bs IndexOutOfDictionary d = OneFails.later d

module _ {F : Type 0} (rest : F → ℕ → Option (List ℕ)) (fed : F → List Taken → F → Type 0) (count : F → ℕ) where
  -- no column
  pub each_empty : ((feed : F) → fed feed [] feed) → (rows : ℕ) (feed : F) (rs : List ReaderOf) (batch : Batch) → length rs ≡ 0 → length rs ≡ length batch
      → EachDraws rest fed count rows feed feed rs rs (Ok batch)
  each_empty nothing rows feed [] [] none beside = record {
    takes = [];
    led = nothing feed;
    turns = refl;
    cause = record { later = omega arith; failed = λ f. absurd f };
    told = told;
  }
    where
      told : (befores : List Streams) → TellsEach rest feed [] befores → EachSaid rest rows feed [] [] befores (Ok [])
      told [] tells = ([], tt, EachGoesOn.none)
      told (s ∷ ss) tells = absurd tells
  each_empty nothing rows feed [] (column ∷ batch) none beside = absurd (omega (arith, beside))
  each_empty nothing rows feed (r ∷ rs) batch none beside = absurd (omega (arith, none))

  -- the first column has no so many rows more
  pub each_fails : {Y : Type 0} → StopInTurn → (rows : ℕ) (r : ReaderOf) (rs new : List ReaderOf) (first last : F) (Goes : Streams → Streams → Y → Type 0) (fault : ColumnFault)
      → Draws rest fed count r.plan (batch_streams r.plan) first last Goes (RowsFail r rows) (Err fault) → EachDraws rest fed count rows first last (r ∷ rs) new (Err fault)
  each_fails stop rows r rs new first last Goes fault d = record {
    takes = d.takes;
    led = d.led;
    turns = stop (batch_streams r.plan) (round_of (plans_of rs)) d.takes d.turns;
    cause = record { later = d.cause.later; failed = λ f. d.cause.failed f };
    told = told;
  }
    where
      told : (befores : List Streams) → TellsEach rest first (plans_of (r ∷ rs)) befores → EachSaid rest rows last (r ∷ rs) new befores (Err fault)
      told [] tells = absurd tells
      told (s ∷ ss) tells = here_fails rows r rs s ss fault (d.told s tells.0)

  -- the first column goes on, and then the others do, or one of them fails
  module _ (joins : (first between last : F) (xs ys : List Taken) → fed first xs between → fed between ys last → fed first (xs ++ ys) last)
      (join : JoinInTurn) (leave : LeaveAColumn rest fed) (leave_stream : LeaveAStream rest fed) where
    pub each_then : {Y : Type 0} (rows : ℕ) (r r' : ReaderOf) (rs rs' : List ReaderOf) (first between last : F) (x : List Value) (xs : Batch) (answer : Result Y ColumnFault)
        → ApartFrom r.plan (plans_of rs)
        → Draws rest fed count r.plan (batch_streams r.plan) first between (RowsGoOn r r') (RowsFail r rows) (Ok x)
        → EachDraws rest fed count rows between last rs rs' (placed xs answer) → EachDraws rest fed count rows first last (r ∷ rs) (r' ∷ rs') (placed (x ∷ xs) answer)
    each_then {Y} rows r r' rs rs' first between last x xs answer apart one more = record {
      takes = one.takes ++ more.takes;
      led = joins first between last one.takes more.takes one.led more.led;
      turns = join (batch_streams r.plan) (round_of (plans_of rs)) one.takes more.takes one.turns more.turns;
      cause = cause answer more.cause;
      told = told;
    }
      where
        rose : Rose (count between) (count last) → Rose (count first) (count last)
        rose (inl less) = inl (omega (arith, one.cause.later))
        rose (inr most) = inr most

        cause : (answer : Result Y ColumnFault) → Cause (count between) (count last) (FailedToRead (placed xs answer)) → Cause (count first) (count last) (FailedToRead (placed (x ∷ xs) answer))
        cause (Ok y) c = record { later = omega (arith, one.cause.later, c.later); failed = λ f. absurd f }
        cause (Err fault) c = record { later = omega (arith, one.cause.later, c.later); failed = λ f. rose (c.failed f) }

        said : (answer : Result Y ColumnFault) (s : Streams) (ss : List Streams) → (m : Streams) × Tells rest between r.plan m × RowsGoOn r r' s m x
            → EachSaid rest rows last rs rs' ss (placed xs answer) → EachSaid rest rows last (r ∷ rs) (r' ∷ rs') (s ∷ ss) (placed (x ∷ xs) answer)
        said (Ok y) s ss (m, tells, goes) (afters, each, on) = (
          m ∷ afters,
          (round_leaves rest fed leave_stream r.plan (plans_of rs) m between last more.takes apart more.turns more.led tells, each),
          EachGoesOn.next goes on,
        )
        said (Err fault) s ss on fails = later_fails rows r rs s ss fault fails

        told : (befores : List Streams) → TellsEach rest first (plans_of (r ∷ rs)) befores → EachSaid rest rows last (r ∷ rs) (r' ∷ rs') befores (placed (x ∷ xs) answer)
        told [] tells = absurd tells
        told (s ∷ ss) tells = said answer s ss (one.told s tells.0)
            (more.told ss (column_leaves rest fed leave r.plan (plans_of rs) ss first between one.takes apart one.own one.led tells.1))
