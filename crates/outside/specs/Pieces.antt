-- Varints in pieces: what more bytes make of numbers that are still to be read.
use Rattle.std.specs.Prelude.{◌≡◌, ℕ, ◌+◌, ◌*◌, ◌-◌, ◌≤◌, List, ◌∷◌, ◌++◌, length, take, Option, Some, None, Result, Ok, Err}
use Rattle.outside.specs.declared.run_fault.RunFault.{RunFault}
use Rattle.outside.specs.declared.run_fault.RunFault.TheVariants.{LongVarint}
use Rattle.outside.specs.Reading.{mapped}
use Rattle.outside.specs.Varint.{open_varint, open_varints}

-- one more byte ends the number that has begun, or doesn't, or makes it too long
abbrev pub Pushed : ℕ → ℕ → ℕ → ℕ → ℕ → Result (Option ℕ) RunFault → Type 0
Pushed groups count byte groups' count' (Ok (Some number)) =
    ((more : List ℕ) → open_varint groups count (byte ∷ more) ≡ Ok (number, more)) × (groups' ≡ 0) × (count' ≡ 0)
Pushed groups count byte groups' count' (Ok None) =
    ((more : List ℕ) → open_varint groups count (byte ∷ more) ≡ open_varint groups' count' more)
    × (count' ≡ count + 1)
Pushed groups count byte groups' count' (Err fault) =
    (fault ≡ LongVarint) × ((more : List ℕ) → open_varint groups count (byte ∷ more) ≡ Err LongVarint)

-- these bytes end some of the numbers that are asked for, and may begin another
pub record Absorbed (groups count asked : ℕ) (piece numbers : List ℕ) (groups' count' : ℕ) : Type 0 where
  pub reads : (more : List ℕ) → open_varints groups count asked (piece ++ more)
      ≡ mapped (λ others. numbers ++ others) (open_varints groups' count' (asked - length numbers)) more
  pub fewer : length numbers ≤ length piece
  pub nearer : count + length piece ≤ 10 * length numbers + count'

-- what a call that absorbs a piece answers: how many numbers ended, or that one is too long
abbrev pub AbsorbsTo : ℕ → ℕ → List ℕ → List ℕ → ℕ → ℕ → Result ℕ RunFault → Type 0
AbsorbsTo groups count piece out groups' count' (Ok ended) =
    (ended ≤ length out) × Absorbed groups count (length out) piece (take ended out) groups' count'
AbsorbsTo groups count piece out groups' count' (Err fault) =
    (fault ≡ LongVarint) × ((more : List ℕ) → open_varints groups count (length out) (piece ++ more) ≡ Err LongVarint)
