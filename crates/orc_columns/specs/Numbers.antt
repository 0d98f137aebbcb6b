-- The integers of a whole stream, and what judging a column asks of them. Source: this project's own.
use Rattle.std.specs.Prelude.{◌≡◌, ℕ, ◌+◌, max, List, length, fold, Option, Result, IfOk, ℤ, All, FitsSigned}
use Rattle.std.specs.Int.{w64, cast_unsigned}
use Rattle.outside.specs.declared.run_fault.RunFault.{RunFault}
use Rattle.outside.specs.Feed.{Taken}
use Rattle.outside.specs.Reading.{Reader, placed}
use Rattle.orc_columns.specs.declared.numbers.Summary.{Summary}
use Rattle.row_flags.specs.Optional.{FillsIn}

-- a sum, and then numbers as unsigned ones
abbrev pub total_from : ℕ → List ℤ → ℕ
total_from total numbers = fold (λ (t : ℕ) (n : ℤ). t + cast_unsigned w64 n) total numbers

-- a bound, and then one above each of these numbers as unsigned ones
abbrev pub bound_from : ℕ → List ℤ → ℕ
bound_from bound numbers = fold (λ (b : ℕ) (n : ℤ). max b (cast_unsigned w64 n + 1)) bound numbers

abbrev pub summary_of : List ℤ → Summary
summary_of numbers = record { total = total_from 0 numbers; bound = bound_from 0 numbers }

-- So many integers of a stream were read as `FillsIn` says of one batch, and this is their summary.
pub record ReadsNumbers {F : Type 0} (rest : F → ℕ → Option (List ℕ)) (fed : F → List Taken → F → Type 0)
    (count : F → ℕ) (Form : List ℕ → List ℤ → Type 0) (read : Reader (List ℤ)) (stream : Option ℕ) (first last : F)
    (before held : List ℤ) (asked : ℕ) (answer : Result Summary RunFault) : Type 0 where
  pub numbers : List ℤ
  pub fills : FillsIn rest fed count Form read stream first last before held asked (placed numbers answer)
  pub summary : IfOk answer (λ s. (length numbers ≡ asked) × (s ≡ summary_of numbers) × All (FitsSigned w64) numbers)
