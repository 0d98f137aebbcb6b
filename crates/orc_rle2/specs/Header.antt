-- The front of a run: its form, and how many values it has.
--
-- Source: Apache ORC specification v1, "Integer Run Length Encoding, version 2".
use Rattle.std.specs.Prelude.{ℕ, ◌+◌, ◌/◌, ◌%◌, ◌<◌, ◌≤◌, Bool, List, ℤ, replicate, nat_lt, if◌then◌else◌}
use Rattle.outside.specs.declared.run_fault.RunFault.TheVariants.{StreamEnds}
use Rattle.outside.specs.Reading.{Reader, bind, value, mapped, refusal, byte, exactly}
use Rattle.orc_integers.specs.Integers.{integer}
use Rattle.orc_rle2.specs.declared.header.Header.{Header}
use Rattle.orc_rle2.specs.declared.header.Header.TheVariants.{Repeat, Direct, Patched, Delta}
use Rattle.orc_rle2.specs.IntRun2.{code_of, run_len, direct_body, patched_body, delta_body}
use Rattle.orc_rle2.specs.Packed.{number_of}
use Rattle.orc_rle2.specs.Widths.{width_of, IsWidth}

-- what the first two bytes of a form but short repeat say
abbrev pub long_header : ℕ → ℕ → ℕ → Header
long_header first code count =
    if nat_lt first 128 then Direct (width_of code) count
    else (if nat_lt first 192 then Patched (width_of code) count else Delta code count)

-- what follows the first byte; a number that is no byte doesn't stand in a stream
abbrev pub header_after : ℕ → Reader Header
header_after first =
    if nat_lt first 64 then value (Repeat (first / 8 + 1) (first % 8 + 3))
    else (if nat_lt first 256 then mapped (λ second. long_header first (code_of first) (run_len first second)) byte else refusal StreamEnds)

abbrev pub run_header : Reader Header
run_header = bind byte header_after

-- how many values the run has
abbrev pub count_of : Header → ℕ
count_of (Repeat bytes count) = count
count_of (Direct width count) = count
count_of (Patched width count) = count
count_of (Delta code count) = count

-- the bounds of a width in bytes, of a width in bits, and of a width code
abbrev pub IsBounded : Header → Type 0
IsBounded (Repeat bytes count) = bytes ≤ 8
IsBounded (Direct width count) = IsWidth width
IsBounded (Patched width count) = IsWidth width
IsBounded (Delta code count) = code < 32

-- the values of one number of so many bytes
abbrev pub repeat_body : Bool → ℕ → ℕ → Reader (List ℤ)
repeat_body signed bytes count = mapped (λ body. replicate count (integer signed (number_of body))) (exactly bytes)

-- what follows it, by its form
abbrev pub run_body : Bool → Header → Reader (List ℤ)
run_body signed (Repeat bytes count) = repeat_body signed bytes count
run_body signed (Direct width count) = direct_body signed width count
run_body signed (Patched width count) = patched_body width count
run_body signed (Delta code count) = delta_body signed code count
