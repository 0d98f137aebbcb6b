-- What contracts see of the decoder of a column's integers.
use Rattle.std.specs.Prelude.{◌≡◌, ℕ, Bool, List, [], ℤ, Option, Some, None}
use Rattle.outside.specs.declared.run_fault.RunFault.{RunFault}
use Rattle.orc_columns.specs.declared.spelling.Version.{Version}
use Rattle.orc_columns.specs.declared.spelling.Version.TheVariants.{One, Two}
use Rattle.orc_columns.specs.declared.integers.IntRuns.{IntRuns}
use Rattle.orc_columns.specs.declared.integers.IntRuns.TheVariants as runs

-- integers: their stream, the version of its runs, whether they are signed, those that are held, and the fault answered
pub record IntegersOf : Type 0 where
  pub stream : Option ℕ
  pub version : Version
  pub signed : Bool
  pub held : List ℤ
  pub fault : Option RunFault

abbrev pub held_in : IntRuns → List ℤ
held_in (runs.One d) = d.held
held_in (runs.Two d) = d.held

abbrev pub stream_in : IntRuns → ℕ
stream_in (runs.One d) = d.stream
stream_in (runs.Two d) = d.stream

abbrev pub integers_of : Option ℕ → IntRuns → IntegersOf
integers_of stream (runs.One d) = record { stream = stream; version = One; signed = d.signed; held = d.held; fault = d.fault }
integers_of stream (runs.Two d) = record { stream = stream; version = Two; signed = d.signed; held = d.held; fault = d.fault }

-- the decoder reads that stream; of one that isn't there it holds nothing
abbrev pub IsOn : Option ℕ → IntRuns → Type 0
IsOn None runs = held_in runs ≡ []
IsOn (Some stream) runs = stream_in runs ≡ stream
