-- Why a walk over rows stops. Source: this project's own.
use Rattle.std.specs.Prelude.{ℕ, Result, Err}
use Rattle.orc_columns.specs.declared.fault.ColumnFault.{ColumnFault}
use Rattle.orc_columns.specs.declared.fault.ColumnFault.TheVariants.{Read, NoMemory}
use Rattle.orc_tail.specs.declared.fault.TailFault.{TailFault}
use Rattle.orc_tail.specs.declared.fault.TailFault.TheVariants as tail
use Rattle.orc_rows.specs.declared.fault.RowsFault.{RowsFault}
use Rattle.orc_rows.specs.declared.fault.RowsFault.TheVariants.{BrokenFooter, BrokenColumn}
use Rattle.orc_walk.specs.declared.stop.Stop.{Stop}
use Rattle.orc_walk.specs.declared.stop.Stop.TheVariants as stop
use Rattle.orc_rows.specs.Judging.{IsContent}

-- a fault of a column: the content's own, a failed read, or want of memory
abbrev pub stop_of_column : ColumnFault → Stop ColumnFault
stop_of_column (Read failed) = stop.Read failed
stop_of_column NoMemory = stop.NoMemory
stop_of_column fault = stop.Fault fault

-- and so of the footer of the stripe of a number
abbrev pub stop_of_footer : ℕ → TailFault → Stop RowsFault
stop_of_footer number (tail.Read failed) = stop.Read failed
stop_of_footer number tail.NoMemory = stop.NoMemory
stop_of_footer number fault = stop.Fault (BrokenFooter number fault)

-- the consumer took so, unless memory was refused
abbrev pub EatenBy : {Y : Type 0} → Type 0 → Result Y (Stop RowsFault) → Type 0
EatenBy Ate (Err stop.NoMemory) = Unit {0}
EatenBy Ate answer = Ate

-- a read failed
abbrev pub StoppedByRead : {Y : Type 0} → Result Y (Stop RowsFault) → Type 0
StoppedByRead (Err (stop.Read failed)) = Unit {0}
StoppedByRead answer = ⊥

-- this is so of a fault of the content
abbrev pub IfFault : {Y : Type 0} → Result Y (Stop RowsFault) → (RowsFault → Type 0) → Type 0
IfFault (Err (stop.Fault fault)) P = P fault
IfFault answer P = Unit {0}

-- the content's own fault of a footer, and of a stripe: neither a failed read nor want of memory
abbrev pub IsFooterContent : TailFault → Type 0
IsFooterContent (tail.Read failed) = ⊥
IsFooterContent tail.NoMemory = ⊥
IsFooterContent fault = Unit {0}

abbrev pub IsRowsContent : RowsFault → Type 0
IsRowsContent (BrokenFooter number fault) = IsFooterContent fault
IsRowsContent (BrokenColumn number which fault) = IsContent fault

-- a stop by a failed read
abbrev pub IsReadStop : Stop RowsFault → Type 0
IsReadStop (stop.Read failed) = Unit {0}
IsReadStop why = ⊥

-- this is so of the fault that stopped
abbrev pub IfFaulty : Stop RowsFault → (RowsFault → Type 0) → Type 0
IfFaulty (stop.Fault fault) P = P fault
IfFaulty why P = Unit {0}
