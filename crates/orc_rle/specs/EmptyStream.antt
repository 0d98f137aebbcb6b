-- A stream that may be empty: what is read of it, and what a decoder does that is asked whether it is.
--
-- Source: this project's own: a stream of bits with no byte says that all are set, as one that is absent does (Apache
-- ORC specification v1, "Column Encodings").
use Rattle.std.specs.Prelude.{◌≡◌, ℕ, ◌<◌, ◌≤◌, Bool, true, false, List, [], ◌∷◌, Option, Some, None, Result, Ok, Err}
use Rattle.outside.specs.declared.run_fault.RunFault.{RunFault}
use Rattle.outside.specs.Feed.{Taken, AllOf}
use Rattle.outside.specs.Filling.{Fills}
use Rattle.outside.specs.Reading.{Reader, mapped, IsReadFault}

-- what is read, or nothing where no byte is left
abbrev pub unless_empty : {Y : Type 0} → Reader Y → Reader (Option Y)
unless_empty read [] = Ok (None, [])
unless_empty read (first ∷ rest) = mapped Some read (first ∷ rest)

-- a value that a call left in what it was given, where it answered that it read one
abbrev pub found : {Y E : Type 0} → Y → Result Bool E → Result (Option Y) E
found y (Ok true) = Ok (Some y)
found y (Ok false) = Ok None
found y (Err e) = Err e

-- a decoder that holds these values, and is asked for so many, needs a byte where none is left
abbrev pub NeedsByte : {V : Type 0} → List V → ℕ → List ℕ → Type 0
NeedsByte before asked bytes = (before ≡ []) × (0 < asked) × (bytes ≡ [])

-- what may be answered there: that the stream is empty, or that the feed failed
abbrev pub AnswersEmpty : Result Bool RunFault → Type 0
AnswersEmpty (Ok true) = ⊥
AnswersEmpty (Ok false) = Unit {0}
AnswersEmpty (Err fault) = IsReadFault fault

-- The decoder found no byte: it held nothing and was asked for something, it is as it was, and so is the stream.
pub record FindsEmpty {F V : Type 0} (rest : F → ℕ → Option (List ℕ)) (fed : F → List Taken → F → Type 0)
    (count : F → ℕ) (stream : ℕ) (first last : F) (before held : List V) (asked : ℕ) : Type 0 where
  pub takes : List Taken
  pub led : fed first takes last
  pub own : AllOf stream takes
  pub later : count first ≤ count last
  pub same : held ≡ before
  pub told : (bytes : List ℕ) → rest first stream ≡ Some bytes → NeedsByte before asked bytes × (rest last stream ≡ Some bytes)

-- what it did, by its answer: it filled, or broke, as ever, or it found no byte
abbrev pub FillsOrFindsEmpty : {F V : Type 0} → (F → ℕ → Option (List ℕ)) → (F → List Taken → F → Type 0) → (F → ℕ)
    → (List ℕ → List V → Type 0) → Reader (List V) → ℕ → F → F → List V → List V → ℕ → List V → Result Bool RunFault → Type 0
FillsOrFindsEmpty rest fed count Run read stream first last before held asked values (Ok true) =
    Fills rest fed count Run read stream first last before held asked (Ok values)
FillsOrFindsEmpty rest fed count Run read stream first last before held asked values (Ok false) =
    FindsEmpty rest fed count stream first last before held asked
FillsOrFindsEmpty rest fed count Run read stream first last before held asked values (Err fault) =
    Fills rest fed count Run read stream first last before held asked (Err fault)

-- A call that gives values as `Fills` says, unless its stream has no byte and one is needed. Then it answers that.
pub record FillsUnlessEmpty {F V : Type 0} (rest : F → ℕ → Option (List ℕ)) (fed : F → List Taken → F → Type 0)
    (count : F → ℕ) (Run : List ℕ → List V → Type 0) (read : Reader (List V)) (stream : ℕ) (first last : F)
    (before held : List V) (asked : ℕ) (values : List V) (answer : Result Bool RunFault) : Type 0 where
  pub fills : FillsOrFindsEmpty rest fed count Run read stream first last before held asked values answer
  pub empty : (bytes : List ℕ) → rest first stream ≡ Some bytes → NeedsByte before asked bytes → AnswersEmpty answer
