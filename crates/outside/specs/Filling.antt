-- What a decoder of runs does: it gives values, and keeps what it holds between two calls. Source: this
-- project's own.
use Rattle.std.specs.Prelude.{◌≡◌, ℕ, ◌+◌, List, ◌++◌, length, Option, Some, Result, Ok, Err, IsErrAnd}
use Rattle.outside.specs.declared.run_fault.RunFault.{RunFault}
use Rattle.outside.specs.declared.run_fault.RunFault.TheVariants.{Read}
use Rattle.outside.specs.Cause.{Cause}
use Rattle.outside.specs.Feed.{Taken, AllOf}
use Rattle.outside.specs.Reading.{Reader, IsReadFault}
use Rattle.outside.specs.Runs.{Between, Breaks}

-- the stream breaks before so many values with this fault, unless the feed failed
abbrev pub BreaksWith : {V : Type 0} → (List ℕ → List V → Type 0) → Reader (List V) → List ℕ → ℕ → RunFault → Type 0
BreaksWith Run read start count (Read failed) = Unit {0}
BreaksWith Run read start count fault = Breaks Run read start count fault

-- Where the values given before and those held are what runs spell of a stream, and `bytes` is its rest: after an Ok
-- that is so with the values that were given now, and after a fault it is where the stream breaks.
abbrev pub Continues : {V : Type 0} → (List ℕ → List V → Type 0) → Reader (List V) → List V → List V → ℕ → List ℕ
    → Option (List ℕ) → Result (List V) RunFault → Type 0
Continues {V} Run read before held asked bytes after (Ok values) =
    (rest : List ℕ) × (after ≡ Some rest) × ((start : List ℕ) (given : List V) → Between Run start given before bytes
    → Between Run start (given ++ values) held rest)
Continues {V} Run read before held asked bytes after (Err fault) =
    (start : List ℕ) (given : List V) → Between Run start given before bytes → BreaksWith Run read start (length given + asked) fault

-- A call that gives values from this stream of a feed: it took from no other, a failed read has its cause, and
-- where the stream was told, the values are those that its runs spell.
pub record Fills {F V : Type 0} (rest : F → ℕ → Option (List ℕ)) (fed : F → List Taken → F → Type 0) (count : F → ℕ)
    (Run : List ℕ → List V → Type 0) (read : Reader (List V)) (stream : ℕ) (first last : F) (before held : List V)
    (asked : ℕ) (answer : Result (List V) RunFault) : Type 0 where
  pub takes : List Taken
  pub led : fed first takes last
  pub own : AllOf stream takes
  pub cause : Cause (count first) (count last) (IsErrAnd answer IsReadFault)
  pub told : (bytes : List ℕ) → rest first stream ≡ Some bytes → Continues Run read before held asked bytes (rest last stream) answer
