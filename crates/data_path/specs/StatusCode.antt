-- The exit statuses. Source: this project's own.
use Rattle.std.specs.Prelude.{ℕ}
use Rattle.data_path.specs.declared.status.Status.{Status}
use Rattle.data_path.specs.declared.status.Status.TheVariants.{Done, SomeFailed, Usage, BadPlan, WriteFault, PlanFault, NoMemory}

-- the exit status of an answer
abbrev pub status_code : Status → ℕ
status_code Done = 0
status_code SomeFailed = 1
status_code Usage = 2
status_code BadPlan = 3
status_code WriteFault = 4
status_code PlanFault = 5
status_code NoMemory = 7

-- that of a write that failed
abbrev pub write_fault_code : ℕ
write_fault_code = status_code WriteFault
