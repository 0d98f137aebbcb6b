-- Bytes of texts that are taken.
use Rattle.std.proofs.Common.{◌≡◌, ℕ, ◌<◌, ◌≤◌, Bool, true, false, List, length, take, drop, Option, Ok, Err, refl, sym, ap, subst, arith, inl, inr}
use Rattle.std.specs.Prelude.{Result, nat_le, if◌then◌else◌, IsErrAnd}
use Rattle.outside.specs.declared.run_fault.RunFault.{RunFault}
use Rattle.outside.specs.declared.run_fault.RunFault.TheVariants as run
use Rattle.outside.specs.Feed.{Taken, Lost, taken_of}
use Rattle.outside.specs.Reading.{Gives, Faults, exactly, IsReadFault}
use Rattle.orc_columns.specs.declared.fault.ColumnFault.{ColumnFault}
use Rattle.orc_columns.specs.declared.plan.ColumnPlan.{ColumnPlan}
use Rattle.orc_columns.specs.Column.{Streams}
use Rattle.orc_columns.specs.Draws.{StreamsDiffer, Tells, FailedToRead, Decided, Said, Draws}
use Rattle.row_flags.specs.Optional.{rest_in, AllIn}
use Rattle.orc_columns.specs.Takes.{ReadsIn, take_fault, BodyTaken, BodyShort, DictionaryTaken, DictionaryShort}
use Rattle.orc_columns.proofs.Drawing.{all_in, untouched}
use Rattle.orc_columns.specs.Turns.{alone}
use Rattle.orc_columns.proofs.Turns.{InTurn-alone}

-- ---- just so many bytes

abbrev pair_of : List ℕ × List ℕ → Result (List ℕ × List ℕ) RunFault
pair_of p = Ok p

pair_is : (x y : List ℕ × List ℕ) → pair_of x ≡ pair_of y → x ≡ y
pair_is x y e = cc

within : (n len : ℕ) → nat_le n len ≡ true → n ≤ len
within n len e = grind arith

beyond : (n len : ℕ) → nat_le n len ≡ false → len < n
beyond n len e = grind arith

by_test : (n : ℕ) (b bytes rest : List ℕ) (test : Bool) → nat_le n (length b) ≡ test → (if test then pair_of (take n b, drop n b) else Err run.StreamEnds) ≡ pair_of (bytes, rest) → (n ≤ length b) × (bytes ≡ take n b) × (rest ≡ drop n b)
by_test n b bytes rest true e is =
    let same : (take n b, drop n b) ≡ (bytes, rest) = pair_is (take n b, drop n b) (bytes, rest) is in
    (within n (length b) e, sym (ap (λ (p : List ℕ × List ℕ). p.0) same), sym (ap (λ (p : List ℕ × List ℕ). p.1) same))
by_test n b bytes rest false e is = absurd (let no : Err run.StreamEnds ≡ pair_of (bytes, rest) = is in cc)

exact_ok : (n : ℕ) (b bytes rest : List ℕ) → exactly n b ≡ pair_of (bytes, rest) → (n ≤ length b) × (bytes ≡ take n b) × (rest ≡ drop n b)
exact_ok n b bytes rest is = by_test n b bytes rest (nat_le n (length b)) refl is

short_by_test : (n : ℕ) (b : List ℕ) (fault : RunFault) (test : Bool) → nat_le n (length b) ≡ test → (if test then pair_of (take n b, drop n b) else Err run.StreamEnds) ≡ Err fault → length b < n
short_by_test n b fault true e is = absurd (let no : pair_of (take n b, drop n b) ≡ Err fault = is in cc)
short_by_test n b fault false e is = beyond n (length b) e

exact_short : (n : ℕ) (b : List ℕ) (fault : RunFault) → exactly n b ≡ Err fault → length b < n
exact_short n b fault is = short_by_test n b fault (nat_le n (length b)) refl is

-- ---- faults

abbrev pub taken : {Y : Type 0} → Result Y RunFault → Result Y ColumnFault
taken (Ok y) = Ok y
taken (Err fault) = Err (take_fault fault)

failed_take : {Y : Type 0} (answer : Result Y RunFault) → FailedToRead (taken answer) → IsErrAnd answer IsReadFault
failed_take (Ok y) f = absurd f
failed_take (Err (run.Read failed)) f = tt
failed_take (Err run.StreamEnds) f = absurd f
failed_take (Err run.LongVarint) f = absurd f
failed_take (Err run.PatchOutOfRun) f = absurd f
failed_take (Err run.PatchTooWide) f = absurd f

short_fault : (n : ℕ) (b : List ℕ) (fault : RunFault) → Faults fault (exactly n b) → Decided (λ f. length b < n) (take_fault fault)
short_fault n b (run.Read failed) is = tt
short_fault n b run.StreamEnds is = exact_short n b run.StreamEnds is
short_fault n b run.LongVarint is = exact_short n b run.LongVarint is
short_fault n b run.PatchOutOfRun is = exact_short n b run.PatchOutOfRun is
short_fault n b run.PatchTooWide is = exact_short n b run.PatchTooWide is

module _ {F : Type 0} (rest : F → ℕ → Option (List ℕ)) (fed : F → List Taken → F → Type 0) (count : F → ℕ) where
  module _ (plan : ColumnPlan)
      (lost : (first last : F) (takes : List Taken) (stream : ℕ) → fed first takes last → Lost (taken_of stream takes) (rest first stream) (rest last stream))
      (differ : StreamsDiffer plan) (first last : F) (n : ℕ) where
    body_said : (takes : List Taken) → fed first takes last → AllIn plan.body takes → (before : Streams) → Tells rest first plan before → (answer : Result (List ℕ) RunFault) → Gives (exactly n before.body) (rest_in rest last plan.body) answer
        → Said rest fed count plan (BodyTaken n) (BodyShort n) before last (taken answer)
    body_said takes led own before tells (Ok bytes) (left, is, read) =
        let exact = exact_ok n before.body bytes left read in (
          record before { body = left },
          record {
            present = untouched rest fed count plan lost plan.body plan.present first last takes before.present (λ s a b. differ.present_body s b a) led own tells.present;
            body = is;
            lengths = untouched rest fed count plan lost plan.body plan.length first last takes before.lengths differ.body_length led own tells.lengths;
            dictionary = untouched rest fed count plan lost plan.body plan.dictionary first last takes before.dictionary differ.body_dictionary led own tells.dictionary;
          },
          record { only = (refl, refl, refl); enough = exact.0; bytes_are = exact.1; left = exact.2 },
        )
    body_said takes led own before tells (Err fault) read = short_fault n before.body fault read

    pub body_taken : (stream : Option ℕ) (answer : Result (List ℕ) RunFault) (said : Result (List ℕ) ColumnFault) → stream ≡ plan.body → taken answer ≡ said → ReadsIn rest fed count stream (exactly n) first last answer
        → Draws rest fed count plan (alone plan.body) first last (BodyTaken n) (BodyShort n) said
    body_taken stream answer said on is reads =
        let r : ReadsIn rest fed count plan.body (exactly n) first last answer = subst (λ (o : Option ℕ). ReadsIn rest fed count o (exactly n) first last answer) on reads in
        subst (λ (a : Result (List ℕ) ColumnFault). Draws rest fed count plan (alone plan.body) first last (BodyTaken n) (BodyShort n) a) is
        (record {
          takes = r.takes;
          led = r.led;
          own = all_in plan plan.body r.takes (λ stream is. inr (inl is)) r.own;
          turns = InTurn-alone plan.body r.takes r.own;
          cause = record { later = r.cause.later; failed = λ f. r.cause.failed (failed_take answer f) };
          told = λ before tells. body_said r.takes r.led r.own before tells answer (r.told before.body tells.body);
        })

    dictionary_said : (takes : List Taken) → fed first takes last → AllIn plan.dictionary takes → (before : Streams) → Tells rest first plan before → (answer : Result (List ℕ) RunFault) → Gives (exactly n before.dictionary) (rest_in rest last plan.dictionary) answer
        → Said rest fed count plan (DictionaryTaken n) (DictionaryShort n) before last (taken answer)
    dictionary_said takes led own before tells (Ok bytes) (left, is, read) =
        let exact = exact_ok n before.dictionary bytes left read in (
          record before { dictionary = left },
          record {
            present = untouched rest fed count plan lost plan.dictionary plan.present first last takes before.present (λ s a b. differ.present_dictionary s b a) led own tells.present;
            body = untouched rest fed count plan lost plan.dictionary plan.body first last takes before.body (λ s a b. differ.body_dictionary s b a) led own tells.body;
            lengths = untouched rest fed count plan lost plan.dictionary plan.length first last takes before.lengths (λ s a b. differ.length_dictionary s b a) led own tells.lengths;
            dictionary = is;
          },
          record { only = (refl, refl, refl); enough = exact.0; bytes_are = exact.1; left = exact.2 },
        )
    dictionary_said takes led own before tells (Err fault) read = short_fault n before.dictionary fault read

    pub dictionary_taken : (stream : Option ℕ) (answer : Result (List ℕ) RunFault) (said : Result (List ℕ) ColumnFault) → stream ≡ plan.dictionary → taken answer ≡ said → ReadsIn rest fed count stream (exactly n) first last answer
        → Draws rest fed count plan (alone plan.dictionary) first last (DictionaryTaken n) (DictionaryShort n) said
    dictionary_taken stream answer said on is reads =
        let r : ReadsIn rest fed count plan.dictionary (exactly n) first last answer = subst (λ (o : Option ℕ). ReadsIn rest fed count o (exactly n) first last answer) on reads in
        subst (λ (a : Result (List ℕ) ColumnFault). Draws rest fed count plan (alone plan.dictionary) first last (DictionaryTaken n) (DictionaryShort n) a) is
        (record {
          takes = r.takes;
          led = r.led;
          own = all_in plan plan.dictionary r.takes (λ stream is. inr (inr (inr is))) r.own;
          turns = InTurn-alone plan.dictionary r.takes r.own;
          cause = record { later = r.cause.later; failed = λ f. r.cause.failed (failed_take answer f) };
          told = λ before tells. dictionary_said r.takes r.led r.own before tells answer (r.told before.dictionary tells.dictionary);
        })
