-- Which faults what is read of a file's bytes can have. Source: Apache ORC specification v1, "File Tail" and "Stripe Footer"; the
-- conditions are this project's own.
use Rattle.std.specs.Prelude.{◌≡◌, ℕ, List, Err}
use Rattle.orc_tail.specs.declared.fault.TailFault.{TailFault}
use Rattle.orc_tail.specs.declared.fault.TailFault.TheVariants as fault
use Rattle.orc_tail.specs.declared.stripe.Stripe.{Stripe}
use Rattle.orc_tail.specs.Tail.{tail}
use Rattle.orc_tail.specs.StripeFooter.{stripe_footer}

-- one of the conditions of a stripe's footer: a message is broken, the streams pass the stripe's end, or the root has a PRESENT
-- stream with bytes
abbrev pub IsFooterFault : TailFault → Type 0
IsFooterFault (fault.Wire wire) = Unit {0}
IsFooterFault fault.RootPresent = Unit {0}
IsFooterFault fault.StreamOutOfStripe = Unit {0}
IsFooterFault why = ⊥

-- one of the conditions of a tail
abbrev pub IsTailFault : TailFault → Type 0
IsTailFault fault.RootPresent = ⊥
IsTailFault fault.StreamOutOfStripe = ⊥
IsTailFault (fault.Read failed) = ⊥
IsTailFault fault.NoMemory = ⊥
IsTailFault why = Unit {0}

abbrev pub StripeFootersHaveThreeFaults : Type 0
StripeFootersHaveThreeFaults = (file : List ℕ) (stripe : Stripe) (why : TailFault) → stripe_footer file stripe ≡ Err why → IsFooterFault why

abbrev pub TailsHaveSevenFaults : Type 0
TailsHaveSevenFaults = (file : List ℕ) (why : TailFault) → tail file ≡ Err why → IsTailFault why
