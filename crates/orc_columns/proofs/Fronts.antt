-- Values that are read to the front of a list.
use Rattle.std.proofs.Common.{◌≡◌, ℕ, Bool, List, [], ◌++◌, length, take, Option, Ok, ℤ, refl, subst}
use Rattle.std.specs.Prelude.{Result}
use Rattle.std.proofs.Math.Seq.{take-append_seam}
use Rattle.outside.specs.declared.run_fault.RunFault.{RunFault}
use Rattle.outside.specs.Feed.{Taken, Lost, taken_of}
use Rattle.orc_rle.specs.BitRun.{BitRun, bit_run}
use Rattle.orc_columns.specs.declared.fault.ColumnFault.{ColumnFault}
use Rattle.orc_columns.specs.declared.fault.StreamName.TheVariants as name
use Rattle.orc_columns.specs.declared.plan.ColumnPlan.{ColumnPlan}
use Rattle.orc_columns.specs.Batches.{NumbersGoOn, NumbersBreak, LengthsGoOn, LengthsBreak, BitsGoOn, BitsBreak}
use Rattle.row_flags.specs.Decoders.{BitsOf}
use Rattle.orc_columns.specs.Decoders.{IntegersOf}
use Rattle.orc_columns.specs.Draws.{StreamsDiffer, Draws, in_stream}
use Rattle.row_flags.specs.Optional.{FillsIn}
use Rattle.orc_columns.specs.Spelling.{IntRun, int_run}
use Rattle.orc_columns.proofs.Drawing.{body_draws, length_draws}
use Rattle.orc_columns.specs.Turns.{alone}

-- what was filled is the front of the list
abbrev pub given : {V : Type 0} → List V → Result (List V) ColumnFault
given values = Ok values

pub front_is : {V : Type 0} (front back : List V) (count : ℕ) → length front ≡ count → given front ≡ given (take count (front ++ back))
front_is front back count len = rw (← len, take-append_seam front back) refl

module _ {F : Type 0} (rest : F → ℕ → Option (List ℕ)) (fed : F → List Taken → F → Type 0) (count : F → ℕ) (plan : ColumnPlan)
    (lost : (first last : F) (takes : List Taken) (stream : ℕ) → fed first takes last → Lost (taken_of stream takes) (rest first stream) (rest last stream))
    (nothing : (feed : F) → fed feed [] feed) (joined : (first between last : F) (xs ys : List Taken) → fed first xs between → fed between ys last → fed first (xs ++ ys) last)
    (differ : StreamsDiffer plan) where
  pub numbers_front : (old new : IntegersOf) (first last : F) (asked n : ℕ) (answer : Result (List ℤ) RunFault) (said : Result (List ℤ) ColumnFault) → old.stream ≡ plan.body → asked ≡ n → in_stream name.Body answer ≡ said
      → FillsIn rest fed count (IntRun old.version old.signed) (int_run old.version old.signed) old.stream first last old.held new.held asked answer
      → Draws rest fed count plan (alone plan.body) first last (NumbersGoOn old new) (NumbersBreak old n) said
  numbers_front old new first last asked n answer said on len is filled =
      let of_plan : FillsIn rest fed count (IntRun old.version old.signed) (int_run old.version old.signed) plan.body first last old.held new.held asked answer =
      subst (λ (s : Option ℕ). FillsIn rest fed count (IntRun old.version old.signed) (int_run old.version old.signed) s first last old.held new.held asked answer) on filled in
      let drawn : Draws rest fed count plan (alone plan.body) first last (NumbersGoOn old new) (NumbersBreak old asked) (in_stream name.Body answer) =
      body_draws rest fed count plan lost nothing joined differ (IntRun old.version old.signed) (int_run old.version old.signed) first last old.held new.held asked answer of_plan in
      subst (λ (k : ℕ). Draws rest fed count plan (alone plan.body) first last (NumbersGoOn old new) (NumbersBreak old k) said) len
      (subst (λ (r : Result (List ℤ) ColumnFault). Draws rest fed count plan (alone plan.body) first last (NumbersGoOn old new) (NumbersBreak old asked) r) is drawn)

  pub lengths_front : (old new : IntegersOf) (first last : F) (asked n : ℕ) (answer : Result (List ℤ) RunFault) (said : Result (List ℤ) ColumnFault) → old.stream ≡ plan.length → asked ≡ n → in_stream name.Length answer ≡ said
      → FillsIn rest fed count (IntRun old.version old.signed) (int_run old.version old.signed) old.stream first last old.held new.held asked answer
      → Draws rest fed count plan (alone plan.length) first last (LengthsGoOn old new) (LengthsBreak old n) said
  lengths_front old new first last asked n answer said on len is filled =
      let of_plan : FillsIn rest fed count (IntRun old.version old.signed) (int_run old.version old.signed) plan.length first last old.held new.held asked answer =
      subst (λ (s : Option ℕ). FillsIn rest fed count (IntRun old.version old.signed) (int_run old.version old.signed) s first last old.held new.held asked answer) on filled in
      let drawn : Draws rest fed count plan (alone plan.length) first last (LengthsGoOn old new) (LengthsBreak old asked) (in_stream name.Length answer) =
      length_draws rest fed count plan lost nothing joined differ (IntRun old.version old.signed) (int_run old.version old.signed) first last old.held new.held asked answer of_plan in
      subst (λ (k : ℕ). Draws rest fed count plan (alone plan.length) first last (LengthsGoOn old new) (LengthsBreak old k) said) len
      (subst (λ (r : Result (List ℤ) ColumnFault). Draws rest fed count plan (alone plan.length) first last (LengthsGoOn old new) (LengthsBreak old asked) r) is drawn)

  pub bits_front : (old new : BitsOf) (first last : F) (asked n : ℕ) (answer : Result (List Bool) RunFault) (said : Result (List Bool) ColumnFault) → old.stream ≡ plan.body → asked ≡ n → in_stream name.Body answer ≡ said
      → FillsIn rest fed count BitRun bit_run old.stream first last old.held new.held asked answer
      → Draws rest fed count plan (alone plan.body) first last (BitsGoOn old new) (BitsBreak old n) said
  bits_front old new first last asked n answer said on len is filled =
      let of_plan : FillsIn rest fed count BitRun bit_run plan.body first last old.held new.held asked answer =
      subst (λ (s : Option ℕ). FillsIn rest fed count BitRun bit_run s first last old.held new.held asked answer) on filled in
      let drawn : Draws rest fed count plan (alone plan.body) first last (BitsGoOn old new) (BitsBreak old asked) (in_stream name.Body answer) =
      body_draws rest fed count plan lost nothing joined differ BitRun bit_run first last old.held new.held asked answer of_plan in
      subst (λ (k : ℕ). Draws rest fed count plan (alone plan.body) first last (BitsGoOn old new) (BitsBreak old k) said) len
      (subst (λ (r : Result (List Bool) ColumnFault). Draws rest fed count plan (alone plan.body) first last (BitsGoOn old new) (BitsBreak old asked) r) is drawn)
