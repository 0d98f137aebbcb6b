-- The flags and the bits of a whole stream. Source: this project's own.
use Rattle.std.specs.Prelude.{◌≡◌, ℕ, Bool, List, length, Option, Result, OnOk, IfOk}
use Rattle.outside.specs.declared.run_fault.RunFault.{RunFault}
use Rattle.outside.specs.Feed.{Taken}
use Rattle.outside.specs.Reading.{placed}
use Rattle.orc_rle.specs.BitRun.{BitRun, bit_run}
use Rattle.orc_values.specs.Woven.{present_count}
use Rattle.row_flags.specs.Decoders.{PresentOf}
use Rattle.row_flags.specs.Optional.{FillsIn}
use Rattle.row_flags.specs.Present.{PresentFills}

-- So many flags were read as `PresentFills` says of one batch, and so many of them are set.
pub record ReadsFlags {F : Type 0} (rest : F → ℕ → Option (List ℕ)) (fed : F → List Taken → F → Type 0) (count : F → ℕ)
    (old new : PresentOf) (first last : F) (asked : ℕ) (answer : Result ℕ RunFault) : Type 0 where
  pub flags : List Bool
  pub fills : PresentFills rest fed count old new first last asked (placed flags answer)
  pub set : IfOk answer (λ n. (length flags ≡ asked) × (n ≡ present_count flags))

-- So many bits were read as `FillsIn` says of one batch.
pub record ReadsBits {F : Type 0} (rest : F → ℕ → Option (List ℕ)) (fed : F → List Taken → F → Type 0) (count : F → ℕ)
    (stream : Option ℕ) (first last : F) (before held : List Bool) (asked : ℕ) {T : Type 0}
    (answer : Result T RunFault) : Type 0 where
  pub bits : List Bool
  pub fills : FillsIn rest fed count BitRun bit_run stream first last before held asked (placed bits answer)
  pub all : OnOk answer (length bits ≡ asked)
