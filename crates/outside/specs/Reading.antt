-- Reading from the front of a stream: as a function on lists of bytes, and as what a call on a feed does.
-- Source: this project's own.
use Rattle.std.specs.Prelude.{[], ◌∷◌, ◌≡◌, ℕ, List, length, take, drop, Option, Some, Result, Ok, Err, nat_le, if◌then◌else◌, IsErrAnd}
use Rattle.outside.specs.declared.run_fault.RunFault.{RunFault}
use Rattle.outside.specs.declared.run_fault.RunFault.TheVariants.{StreamEnds, Read}
use Rattle.outside.specs.Cause.{Cause}
use Rattle.outside.specs.Feed.{Taken, AllOf}

-- a value and the bytes after it, or the first fault
abbrev pub Reader : Type 0 → Type 0
Reader Y = List ℕ → Result (Y × List ℕ) RunFault

-- what was read, and then what is read by its value
abbrev pub go_on : {X Y : Type 0} → Result (X × List ℕ) RunFault → (X → Reader Y) → Result (Y × List ℕ) RunFault
go_on (Ok (x, rest)) next = next x rest
go_on (Err fault) next = Err fault

-- one reader, and then another by its value
abbrev pub bind : {X Y : Type 0} → Reader X → (X → Reader Y) → Reader Y
bind read next bytes = go_on (read bytes) next

-- nothing is read, and this is the value
abbrev pub value : {Y : Type 0} → Y → Reader Y
value y bytes = Ok (y, bytes)

-- nothing is read, and this is the fault
abbrev pub refusal : {Y : Type 0} → RunFault → Reader Y
refusal fault bytes = Err fault

-- what is read, seen by a function
abbrev pub mapped : {X Y : Type 0} → (X → Y) → Reader X → Reader Y
mapped f read = bind read (λ x. value (f x))

-- one byte
abbrev pub byte : Reader ℕ
byte [] = Err StreamEnds
byte (first ∷ rest) = Ok (first, rest)

-- just so many bytes
abbrev pub exactly : ℕ → Reader (List ℕ)
exactly count bytes = if nat_le count (length bytes) then Ok (take count bytes, drop count bytes) else Err StreamEnds

-- the fault of a feed that failed, which says nothing of the bytes
abbrev pub IsReadFault : RunFault → Type 0
IsReadFault (Read failed) = Unit {0}
IsReadFault fault = ⊥

-- this is the fault that is read, unless the feed failed
abbrev pub Faults : {Y : Type 0} → RunFault → Result (Y × List ℕ) RunFault → Type 0
Faults (Read failed) read = Unit {0}
Faults fault read = read ≡ Err fault

-- What a call answered is what is read of the stream's bytes, and the rest is what it leaves of them.
abbrev pub Gives : {Y : Type 0} → Result (Y × List ℕ) RunFault → Option (List ℕ) → Result Y RunFault → Type 0
Gives read after (Ok y) = (rest : List ℕ) × (after ≡ Some rest) × (read ≡ Ok (y, rest))
Gives read after (Err fault) = Faults fault read

-- a value that a call left in what it was given, where it answered Ok
abbrev pub placed : {T Y E : Type 0} → Y → Result T E → Result Y E
placed y (Ok x) = Ok y
placed y (Err e) = Err e

-- A call read from this stream of a feed: it took from no other, a failed read has its cause, and where
-- the stream was told, the call answered as the reader does.
pub record Reads {F Y : Type 0} (rest : F → ℕ → Option (List ℕ)) (fed : F → List Taken → F → Type 0) (count : F → ℕ)
    (stream : ℕ) (read : Reader Y) (first last : F) (answer : Result Y RunFault) : Type 0 where
  pub takes : List Taken
  pub led : fed first takes last
  pub own : AllOf stream takes
  pub cause : Cause (count first) (count last) (IsErrAnd answer IsReadFault)
  pub told : (bytes : List ℕ) → rest first stream ≡ Some bytes → Gives (read bytes) (rest last stream) answer
