-- What a line of the program's own leaves. Source: this project's own.
use Rattle.std.specs.Prelude.{◌≤◌, ℕ, List, take, length, Option}
use Rattle.outside.specs.Cause.{Rose}
use Rattle.outside.specs.Told.{Extended}
use Rattle.data_path.specs.StatusCode.{write_fault_code}

-- The line was written, and the answer is its exit status; or the sink failed, a front of it was written, and the answer is the
-- exit status of a write fault.
pub data WrittenOwn (before after : Option (List ℕ)) (faults faults' : ℕ) (line : List ℕ) (code : ℕ) : ℕ → Type 0 where
  whole : Extended before after line → WrittenOwn before after faults faults' line code code
  failed : (n : ℕ) → n ≤ length line → Extended before after (take n line) → Rose faults faults'
      → WrittenOwn before after faults faults' line code write_fault_code
