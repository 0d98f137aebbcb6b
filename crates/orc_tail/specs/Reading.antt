-- Reading a message field by field, up to the first fault.
use Rattle.std.specs.Prelude.{◌≡◌, List, [], ◌∷◌, ◌++◌, ℕ, Result, Ok, Err}
use Rattle.orc_proto.specs.declared.fault.WireFault.{WireFault}
use Rattle.orc_proto.specs.Message.{Entry}
use Rattle.orc_tail.specs.declared.fault.TailFault.{TailFault}
use Rattle.orc_tail.specs.declared.fault.TailFault.TheVariants.{Wire, NoMemory}

infixl 10 ◌>>=◌
abbrev pub ◌>>=◌ : {A B : Type 0} → Result A TailFault → (A → Result B TailFault) → Result B TailFault
(Ok x) >>= f = f x
(Err e) >>= f = Err e

-- What a message makes of a state, field by field in order. A message inside a field is judged at that
-- field, so the first fault by its offset is the one that counts (this project's reading).
-- Source: the protobuf wire format, "Message Structure" and "Last One Wins".
abbrev pub fields_from : {S : Type 0} → (S → Entry → Result S TailFault) → S → List (Result Entry WireFault) → Result S TailFault
fields_from step s [] = Ok s
fields_from step s (Err e ∷ rest) = Err (Wire e)
fields_from step s (Ok field ∷ rest) = step s field >>= λ t. fields_from step t rest

-- The numbers of a packed field, or its first fault.
abbrev pub numbers_from : List (Result ℕ WireFault) → Result (List ℕ) TailFault
numbers_from [] = Ok []
numbers_from (Err e ∷ rest) = Err (Wire e)
numbers_from (Ok n ∷ rest) = numbers_from rest >>= λ ns. Ok (n ∷ ns)

-- what stands in front of the numbers, and they, or their first fault
abbrev pub behind : List ℕ → Result (List ℕ) TailFault → Result (List ℕ) TailFault
behind front (Ok ns) = Ok (front ++ ns)
behind front (Err e) = Err e

-- a fault that isn't want of memory is the one that reading gives
abbrev pub Fails : {Y : Type 0} → TailFault → Result Y TailFault → Type 0
Fails NoMemory read = Unit {0}
Fails fault read = read ≡ Err fault

-- What a call that takes memory answers, seen by `view`, is what reading gives, unless memory was refused.
abbrev pub Gives : {X Y : Type 0} → (X → Y) → Result X TailFault → Result Y TailFault → Type 0
Gives view (Ok x) read = read ≡ Ok (view x)
Gives view (Err e) read = Fails e read
