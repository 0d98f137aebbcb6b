use Rattle.std.proofs.Common.{◌<◌, ℕ, Bool, List, ◌++◌, length, Result, Ok, Err, OnOk, arith, length-append}
use Rattle.orc_rle.specs.BitRun.{bits_of}
use Rattle.orc_rle.proofs.BitRuns.{length-bits_of}
use Rattle.orc_rle.proofs.held_bits.HeldBits.read_run.Goals as goal

bits_held : {T E : Type 0} (result : Result T E) (first : List Bool) (bytes : List ℕ) → OnOk result (0 < length bytes) → OnOk result (0 < length (first ++ bits_of bytes))
bits_held (Ok x) first bytes h = omega (arith, length-append first (bits_of bytes), length-bits_of bytes, h)
bits_held (Err e) first bytes h = tt

pub returns-clause-some : goal.returns-clause-some
returns-clause-some g c = bits_held c.read_byte_run.result c.none-self-inside.result c.read_byte_run.new.held c.read_byte_run.ensures.some
