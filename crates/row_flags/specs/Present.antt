-- The stream PRESENT: the flags that it spells, and what a batch of them does.
use Rattle.std.specs.Prelude.{◌≡◌, ◌≢◌, ℕ, ◌+◌, Bool, true, List, [], ◌∷◌, ◌++◌, length, replicate, Option, Some, Result, Ok, Err, IsErrAnd}
use Rattle.outside.specs.declared.run_fault.RunFault.{RunFault}
use Rattle.outside.specs.declared.run_fault.RunFault.TheVariants.{Read}
use Rattle.outside.specs.Cause.{Cause}
use Rattle.outside.specs.Feed.{Taken}
use Rattle.outside.specs.Reading.{IsReadFault}
use Rattle.outside.specs.Runs.{Between, Spells, Breaks}
use Rattle.orc_rle.specs.BitRun.{BitRun, bit_run}
use Rattle.row_flags.specs.declared.present.PresentState.{PresentState}
use Rattle.row_flags.specs.declared.present.PresentState.TheVariants.{Unread, Empty, Flags}
use Rattle.row_flags.specs.Decoders.{PresentOf}
use Rattle.row_flags.specs.Optional.{rest_in, AllIn}

-- A flag for each row, set where the value isn't null: the bits that PRESENT spells. Without a byte of it nothing is null.
abbrev pub ArePresent : List ℕ → List Bool → Type 0
ArePresent [] flags = flags ≡ replicate (length flags) true
ArePresent (byte ∷ bytes) flags = (rest : List ℕ) × Spells BitRun (byte ∷ bytes) flags rest

-- PRESENT has a byte, and doesn't spell so many bits
abbrev pub PresentBreaks : List ℕ → ℕ → RunFault → Type 0
PresentBreaks [] rows fault = ⊥
PresentBreaks (byte ∷ bytes) rows fault = Breaks BitRun bit_run (byte ∷ bytes) rows fault

-- Of a stream these flags were given, so many are held, and the rest stands behind them: nothing was read; there is no
-- byte, and all flags are set; or the flags are what its runs spell.
abbrev pub PresentBetween : PresentState → List ℕ → List Bool → List Bool → List ℕ → Type 0
PresentBetween Unread start flags held rest = (flags ≡ []) × (held ≡ []) × (rest ≡ start)
PresentBetween Empty start flags held rest = (start ≡ []) × (rest ≡ []) × (flags ≡ replicate (length flags) true)
PresentBetween Flags start flags held rest = (start ≢ []) × Between BitRun start flags held rest

-- it breaks before so many flags with this fault, unless the feed failed
abbrev pub PresentBreaksWith : List ℕ → ℕ → RunFault → Type 0
PresentBreaksWith start count (Read failed) = Unit {0}
PresentBreaksWith start count fault = PresentBreaks start count fault

-- what a batch of so many flags says of what was given before, and of what is left
abbrev pub PresentContinues : PresentOf → PresentOf → ℕ → List ℕ → Option (List ℕ) → Result (List Bool) RunFault → Type 0
PresentContinues old new asked bytes after (Ok flags) =
    (rest : List ℕ) × (after ≡ Some rest)
    × ((start : List ℕ) (given : List Bool) → PresentBetween old.state start given old.held bytes
    → PresentBetween new.state start (given ++ flags) new.held rest)
PresentContinues old new asked bytes after (Err fault) =
    (start : List ℕ) (given : List Bool) → PresentBetween old.state start given old.held bytes
    → PresentBreaksWith start (length given + asked) fault

-- A batch of flags was given: it took from PRESENT alone, a failed read has its cause, and where the stream was told,
-- the flags are the next.
pub record PresentFills {F : Type 0} (rest : F → ℕ → Option (List ℕ)) (fed : F → List Taken → F → Type 0)
    (count : F → ℕ) (old new : PresentOf) (first last : F) (asked : ℕ)
    (answer : Result (List Bool) RunFault) : Type 0 where
  pub takes : List Taken
  pub led : fed first takes last
  pub own : AllIn old.stream takes
  pub cause : Cause (count first) (count last) (IsErrAnd answer IsReadFault)
  pub told : (bytes : List ℕ) → rest_in rest first old.stream ≡ Some bytes
      → PresentContinues old new asked bytes (rest_in rest last old.stream) answer
