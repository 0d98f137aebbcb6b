-- The order of the queue is strict and total.
use Rattle.std.proofs.Common.{◌≡◌, ◌≢◌, Bool, true, false, arith, refl}
use Rattle.std.proofs.lemmas.Bool.Decides.{nat_tests}
use Rattle.board_history.specs.declared.place.Place.{Place}
use Rattle.board_history.specs.Order.{is_narrower, before_by, is_before}

narrower_itself : (p : Place) → is_narrower p p ≡ false
narrower_itself p = grind (arith, nat_tests)

narrower_far : (p q r : Place) → is_narrower p q ≡ true → is_narrower q r ≡ true → is_narrower p r ≡ true
narrower_far p q r a b = grind (arith, nat_tests)

narrower_other : (p q : Place) → is_narrower p q ≡ false → p.fragment ≢ q.fragment → is_narrower q p ≡ true
narrower_other p q a apart = grind (arith, nat_tests)

itself_by : (b : Bool) (p : Place) → before_by b b p p ≡ false
itself_by false p = narrower_itself p
itself_by true p = narrower_itself p

far_by : (a b c : Bool) (p q r : Place) → before_by a b p q ≡ true → before_by b c q r ≡ true → before_by a c p r ≡ true
far_by false false false p q r x y = narrower_far p q r x y
far_by false false true p q r x y = refl
far_by false true false p q r x y = cc
far_by false true true p q r x y = refl
far_by true false false p q r x y = cc
far_by true false true p q r x y = cc
far_by true true false p q r x y = cc
far_by true true true p q r x y = narrower_far p q r x y

other_by : (a b : Bool) (p q : Place) → before_by a b p q ≡ false → p.fragment ≢ q.fragment → before_by b a q p ≡ true
other_by false false p q x apart = narrower_other p q x apart
other_by false true p q x apart = cc
other_by true false p q x apart = refl
other_by true true p q x apart = narrower_other p q x apart

-- no place comes before itself
pub before_itself : (p : Place) → is_before p p ≡ false
before_itself p = itself_by p.blocked p

-- before one that comes before another is before that
pub before_far : (p q r : Place) → is_before p q ≡ true → is_before q r ≡ true → is_before p r ≡ true
before_far p q r x y = far_by p.blocked q.blocked r.blocked p q r x y

-- of two fragments one comes before the other
pub before_other : (p q : Place) → is_before p q ≡ false → p.fragment ≢ q.fragment → is_before q p ≡ true
before_other p q x apart = other_by p.blocked q.blocked p q x apart
