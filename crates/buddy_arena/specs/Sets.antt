-- A word as a set of places.
use Rattle.std.specs.Prelude.{◌≡◌, ℕ}
use Rattle.std.specs.Int.{bit_at}

-- bit p is 1 exactly where P holds of p
pub record IsSetOf (set : ℕ) (P : ℕ → Type 0) : Type 0 where
  pub holds : (p : ℕ) → bit_at set p ≡ 1 → P p
  pub has : (p : ℕ) → P p → bit_at set p ≡ 1
