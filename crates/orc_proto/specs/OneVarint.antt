-- The varint of a message and that of a stream of runs are one spelling: the same number, the same rest, the same fault.
-- Source: this project's own, over the protobuf wire format and the Apache ORC specification v1, "Base 128 Varint".
use Rattle.std.specs.Prelude.{◌≡◌, ℕ, List, Result, Ok, Err}
use Rattle.outside.specs.declared.run_fault.RunFault.{RunFault}
use Rattle.outside.specs.declared.run_fault.RunFault.TheVariants.{StreamEnds, LongVarint as TooLong, PatchOutOfRun, PatchTooWide, Read}
use Rattle.outside.specs.Varint.{varint}
use Rattle.orc_proto.specs.declared.fault.WireFault.{WireFault}
use Rattle.orc_proto.specs.declared.fault.WireFault.TheVariants.{Truncated, LongVarint}
use Rattle.orc_proto.specs.Reading.{varint_at}

-- what a stream gives is what a message gives at that offset
abbrev pub IsSame : ℕ → Result (ℕ × List ℕ) RunFault → Result (ℕ × List ℕ) WireFault → Type 0
IsSame offset (Ok read) message = message ≡ Ok read
IsSame offset (Err StreamEnds) message = message ≡ Err (Truncated offset)
IsSame offset (Err TooLong) message = message ≡ Err (LongVarint offset)
IsSame offset (Err PatchOutOfRun) message = ⊥
IsSame offset (Err PatchTooWide) message = ⊥
IsSame offset (Err (Read failed)) message = ⊥

abbrev pub IsOneVarint : Type 0
IsOneVarint = (offset : ℕ) (bytes : List ℕ) → IsSame offset (varint bytes) (varint_at offset bytes)
