-- What a batch of flags of PRESENT makes of those that were given before. Source: this project's own.
use Rattle.std.specs.Prelude.{◌≡◌, ℕ, ◌+◌, Bool, List, ◌++◌, length}
use Rattle.outside.specs.declared.run_fault.RunFault.{RunFault}
use Rattle.row_flags.specs.Decoders.{PresentOf}
use Rattle.row_flags.specs.Present.{PresentBetween, PresentBreaks}
use Rattle.orc_columns.specs.declared.fault.ColumnFault.{ColumnFault}
use Rattle.orc_columns.specs.declared.fault.ColumnFault.TheVariants.{Run}
use Rattle.orc_columns.specs.declared.fault.StreamName.TheVariants as name

-- the flags of PRESENT go on with these
abbrev pub PresentGoesOn : PresentOf → PresentOf → List ℕ → List ℕ → List Bool → Type 0
PresentGoesOn old new before after flags = (start : List ℕ) (given : List Bool) → PresentBetween old.state start given old.held before
    → PresentBetween new.state start (given ++ flags) new.held after

-- the fault is that of a run of PRESENT, which breaks before so many flags more
abbrev pub PresentBreaksOn : PresentOf → ℕ → List ℕ → ColumnFault → Type 0
PresentBreaksOn old asked before fault =
    (broken : RunFault) × (fault ≡ Run name.Present broken)
    × ((start : List ℕ) (given : List Bool) → PresentBetween old.state start given old.held before
    → PresentBreaks start (length given + asked) broken)
