-- What finding columns answers, by what the definitions make of it. Source: this project's own.
use Rattle.std.specs.Prelude.{◌≡◌, ℕ, List, Option, Some, None, Result, Ok, Err}
use Rattle.orc_streams.specs.declared.layout.ReadColumn.{ReadColumn}
use Rattle.orc_tail.specs.declared.columns.TopColumn.{TopColumn}
use Rattle.orc_walk.specs.declared.stop.Stop.{Stop}
use Rattle.orc_walk.specs.declared.stop.Stop.TheVariants as stop
use Rattle.fragment_outcome.specs.declared.failure.Failure.{Failure}
use Rattle.fragment_outcome.specs.declared.failure.Failure.TheVariants as failure

-- the answer, seen by `view`, is this one, unless memory was refused; nothing is read
abbrev pub Judges : {X Y : Type 0} → (X → Y) → Result Y Failure → Result X (Stop Failure) → Type 0
Judges view judged (Ok x) = judged ≡ Ok (view x)
Judges view judged (Err (stop.Fault why)) = judged ≡ Err why
Judges view judged (Err (stop.Read failed)) = ⊥
Judges view judged (Err stop.NoMemory) = Unit {0}

-- the column of a name, as it is read
abbrev pub read_as : List ℕ → Option TopColumn → Result ReadColumn Failure
read_as name None = Err (failure.NoColumn name)
read_as name (Some column) = Ok (record { number = column.number; kind = column.kind })

-- the columns of names, or that the first name that is missing has none
abbrev pub or_missing : Result (List ReadColumn) (List ℕ) → Result (List ReadColumn) Failure
or_missing (Ok columns) = Ok columns
or_missing (Err name) = Err (failure.NoColumn name)
