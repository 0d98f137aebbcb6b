-- How the takes and the rows of two columns follow each other.
use Rattle.std.proofs.Common.{◌≡◌, ℕ, List, ◌++◌, Option, Ok, Err, sym, subst, append_assoc}
use Rattle.std.specs.Prelude.{Result, OnOk}
use Rattle.outside.specs.Feed.{Taken}
use Rattle.outside.specs.Reading.{placed}
use Rattle.orc_values.specs.declared.value.Value.{Value}
use Rattle.orc_columns.specs.declared.fault.ColumnFault.{ColumnFault}
use Rattle.orc_columns.specs.declared.plan.ColumnPlan.{ColumnPlan}
use Rattle.orc_columns.specs.Column.{Streams}
use Rattle.orc_columns.specs.Draws.{Tells, Draws}
use Rattle.orc_columns.specs.Laws.{Apart, JoinInTurn, StopInTurn, LeaveAColumn}
use Rattle.orc_columns.specs.Midway.{ReaderOf, Midway}
use Rattle.orc_columns.specs.Reader.{RowsGoOn, RowsFail}
use Rattle.orc_columns.specs.Turns.{InTurn, batch_streams}
use Rattle.column_uses.specs.declared.two_columns.Pair.{Pair}
use Rattle.column_uses.specs.Together.{both, TakesOfBoth, TakesOfBothTwice, BothGoOn, BothGoOnTwice}

-- one batch and then another are one list of rows
rows_on : (old mid new : ReaderOf) (s m a : Streams) (front back : List Value) → RowsGoOn old mid s m front → RowsGoOn mid new m a back → RowsGoOn old new s a (front ++ back)
rows_on old mid new s m a front back one two start given at =
    subst (λ (rows : List Value). Midway new start rows a) (append_assoc given front back) (two start (given ++ front) (one start given at))

module _ {F : Type 0} (rest : F → ℕ → Option (List ℕ)) (fed : F → List Taken → F → Type 0) (count : F → ℕ)
    (joined : (first between last : F) (xs ys : List Taken) → fed first xs between → fed between ys last → fed first (xs ++ ys) last)
    (join : JoinInTurn) (stop : StopInTurn) where
  module _ {X Y : Type 0} (p q : ColumnPlan) (first between last : F)
      (Goes : Streams → Streams → X → Type 0) (More : Streams → Streams → Y → Type 0) (Faults Faults' : Streams → ColumnFault → Type 0) (x : Result X ColumnFault) (y : Result Y ColumnFault) where
    pub takes_of_one : Draws rest fed count p (batch_streams p) first between Goes Faults x → TakesOfBoth fed p q first between
    takes_of_one d = (d.takes, d.led, stop (batch_streams p) (batch_streams q) d.takes d.turns)

    pub takes_of_both : Draws rest fed count p (batch_streams p) first between Goes Faults x → Draws rest fed count q (batch_streams q) between last More Faults' y → TakesOfBoth fed p q first last
    takes_of_both d e = (d.takes ++ e.takes, joined first between last d.takes e.takes d.led e.led, join (batch_streams p) (batch_streams q) d.takes e.takes d.turns e.turns)

  pub takes_once : (p q : ColumnPlan) (first last : F) → TakesOfBoth fed p q first last → TakesOfBothTwice fed p q first last
  takes_once p q first last (takes, led, turns) = (takes, led, stop (both p q) (both p q) takes turns)

  pub takes_twice : (p p' q q' : ColumnPlan) (first between last : F) → p' ≡ p → q' ≡ q → TakesOfBoth fed p q first between → TakesOfBoth fed p' q' between last → TakesOfBothTwice fed p q first last
  takes_twice p p' q q' first between last same same' (xs, led, turns) (ys, led', turns') =
      (xs ++ ys, joined first between last xs ys led led', join (both p q) (both p q) xs ys turns (rw (sym same, sym same') turns'))

  -- both columns go on by their batches, since they have no stream in common
  pub both_go_on : LeaveAColumn rest fed → (one one' two two' : ReaderOf) (first between last : F) (n : ℕ) (pair : Pair) → Apart one.plan two.plan
      → Draws rest fed count one.plan (batch_streams one.plan) first between (RowsGoOn one one') (RowsFail one n) (Ok pair.one)
      → Draws rest fed count two.plan (batch_streams two.plan) between last (RowsGoOn two two') (RowsFail two n) (Ok pair.two)
      → BothGoOn rest one one' two two' first last pair
  both_go_on leave one one' two two' first between last n pair apart d e s t of_one of_two =
      let m = d.told s of_one in
      let b = e.told t (leave one.plan two.plan t first between d.takes apart d.own d.led of_two) in
      (m.0, b.0, leave two.plan one.plan m.0 between last e.takes (λ stream is of. apart stream of is) e.own e.led m.1, b.1, m.2, b.2)

  pub both_go_on_twice : (one mid new two mid' new' : ReaderOf) (first between last : F) (front back : Pair) → mid.plan ≡ one.plan → mid'.plan ≡ two.plan
      → BothGoOn rest one mid two mid' first between front → BothGoOn rest mid new mid' new' between last back → BothGoOnTwice rest one new two new' first last front back
  both_go_on_twice one mid new two mid' new' first between last front back same same' d e s t of_one of_two =
      let m = d s t of_one of_two in
      let a = e m.0 m.1 (subst (λ (p : ColumnPlan). Tells rest between p m.0) (sym same) m.2) (subst (λ (p : ColumnPlan). Tells rest between p m.1) (sym same') m.3) in (
        a.0,
        a.1,
        subst (λ (p : ColumnPlan). Tells rest last p a.0) same a.2,
        subst (λ (p : ColumnPlan). Tells rest last p a.1) same' a.3,
        rows_on one mid new s m.0 a.0 front.one back.one m.4 a.4,
        rows_on two mid' new' t m.1 a.1 front.two back.two m.5 a.5,
      )

  pub go_on_if : {Y : Type 0} (one mid new two mid' new' : ReaderOf) (first between last : F) (front back : Pair) (answer : Result Y ColumnFault) → mid.plan ≡ one.plan → mid'.plan ≡ two.plan
      → BothGoOn rest one mid two mid' first between front → OnOk answer (BothGoOn rest mid new mid' new' between last back) → OnOk answer (BothGoOnTwice rest one new two new' first last front back)
  go_on_if one mid new two mid' new' first between last front back (Ok y) same same' d e = both_go_on_twice one mid new two mid' new' first between last front back same same' d e
  go_on_if one mid new two mid' new' first between last front back (Err fault) same same' d e = tt

  pub both_if : LeaveAColumn rest fed → (one one' two two' : ReaderOf) (first between last : F) (n : ℕ) (pair : Pair) (answer : Result (Unit {0}) ColumnFault) → Apart one.plan two.plan
      → Draws rest fed count one.plan (batch_streams one.plan) first between (RowsGoOn one one') (RowsFail one n) (Ok pair.one)
      → Draws rest fed count two.plan (batch_streams two.plan) between last (RowsGoOn two two') (RowsFail two n) (placed pair.two answer)
      → OnOk answer (BothGoOn rest one one' two two' first last pair)
  both_if leave one one' two two' first between last n pair (Ok done) apart d e = both_go_on leave one one' two two' first between last n pair apart d e
  both_if leave one one' two two' first between last n pair (Err fault) apart d e = tt
