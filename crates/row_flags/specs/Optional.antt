-- Streams that a stripe may lack: one that isn't there is read as an empty one.
use Rattle.std.specs.Prelude.{◌≡◌, ℕ, List, [], Option, Some, None, Result, IsErrAnd}
use Rattle.outside.specs.declared.run_fault.RunFault.{RunFault}
use Rattle.outside.specs.Cause.{Cause}
use Rattle.outside.specs.Feed.{Taken, AllOf}
use Rattle.outside.specs.Filling.{Continues}
use Rattle.outside.specs.Reading.{Reader, IsReadFault}

-- what is left of a stream, where it is told; of one that isn't there nothing is
abbrev pub rest_in : {F : Type 0} → (F → ℕ → Option (List ℕ)) → F → Option ℕ → Option (List ℕ)
rest_in rest feed None = Some []
rest_in rest feed (Some stream) = rest feed stream

-- all takes are of that stream; there is none of one that isn't there
abbrev pub AllIn : Option ℕ → List Taken → Type 0
AllIn None takes = takes ≡ []
AllIn (Some stream) takes = AllOf stream takes

-- What `Fills` says of a decoder, of a stream that may be lacking.
pub record FillsIn {F V : Type 0} (rest : F → ℕ → Option (List ℕ)) (fed : F → List Taken → F → Type 0) (count : F → ℕ)
    (Run : List ℕ → List V → Type 0) (read : Reader (List V)) (stream : Option ℕ) (first last : F)
    (before held : List V) (asked : ℕ) (answer : Result (List V) RunFault) : Type 0 where
  pub takes : List Taken
  pub led : fed first takes last
  pub own : AllIn stream takes
  pub cause : Cause (count first) (count last) (IsErrAnd answer IsReadFault)
  pub told : (bytes : List ℕ) → rest_in rest first stream ≡ Some bytes
      → Continues Run read before held asked bytes (rest_in rest last stream) answer
