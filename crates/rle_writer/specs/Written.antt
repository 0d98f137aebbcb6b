-- What a writer of runs adds to bytes. Source: this project's own.
use Rattle.std.specs.Prelude.{◌≡◌, ℕ, ◌<◌, ◌≤◌, List, ◌++◌, length, map, take, ℤ, Bool}
use Rattle.outside.specs.Runs.{Joined, Fewest}
use Rattle.outside.specs.Varint.{AreVarints}
use Rattle.orc_integers.specs.Integers.{integer}

-- the bytes grew by some that spell this value
abbrev pub Adds : {Y : Type 0} → (List ℕ → Y → Type 0) → List ℕ → List ℕ → Y → Type 0
Adds Form before after value = (bytes : List ℕ) × (after ≡ before ++ bytes) × Form bytes value

-- they grew by one run of the first of the values: at least one, and so many
abbrev pub AddsRun : {V : Type 0} → (List ℕ → List V → Type 0) → List ℕ → List ℕ → List V → ℕ → Type 0
AddsRun Run before after values count = (0 < count) × (count ≤ length values) × Adds Run before after (take count values)

-- whole runs that spell just these values, of which none is empty
pub record Written {V : Type 0} (Run : List ℕ → List V → Type 0) (stream : List ℕ) (values : List V) : Type 0 where
  pub joined : Joined Run stream values
  pub fewest : Fewest Run (length values) stream values

-- varints whose numbers stand for these values
abbrev pub AreIntegers : Bool → List ℕ → List ℤ → Type 0
AreIntegers signed bytes values = (numbers : List ℕ) × AreVarints bytes numbers × (map (integer signed) numbers ≡ values)
