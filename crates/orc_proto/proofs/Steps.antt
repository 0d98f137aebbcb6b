-- Steps of reading that didn't fail.
use Rattle.std.proofs.Common.{◌≡◌, Bool, true, false, cond, Result, Ok, Err, refl, ◌⊎◌, inl, inr}
use Rattle.orc_proto.specs.declared.fault.WireFault.{WireFault}
use Rattle.orc_proto.specs.Reading.{◌>>=◌}

-- the value of a step that was read, and what was read after it
pub both_read : {A B : Type 0} (step : Result A WireFault) (after : A → Result B WireFault) (y : B) → (step >>= after) ≡ Ok y → (x : A) × (step ≡ Ok x) × (after x ≡ Ok y)
both_read (Ok x) after y e = (x, refl, e)
both_read (Err fault) after y e = absurd cc

-- the way that a test went
pub cond_is : {A : Type 0} (test : Bool) (x y z : A) → cond test x y ≡ z → ((test ≡ true) × (x ≡ z)) ⊎ ((test ≡ false) × (y ≡ z))
cond_is true x y z e = inl (refl, e)
cond_is false x y z e = inr (refl, e)

abbrev read_as : {A : Type 0} → A → Result A WireFault
read_as x = Ok x

pub same_read : {A : Type 0} (x y : A) → read_as x ≡ read_as y → x ≡ y
same_read x y e = cc
