-- The entries of patches that a writer makes of numbers. Source: this project's own, over the patches of orc_rle2.
use Rattle.std.specs.Prelude.{◌≡◌, ℕ, ◌+◌, ◌*◌, ◌/◌, ◌^◌, ◌<◌, List, [], ◌∷◌}

-- What numbers have above a width, each with how far it stands from the one before; for the first a gap is given that lies in front of
-- the numbers. No gap is above 255.
pub data Entries (width patches : ℕ) : ℕ → List ℕ → List ℕ → Type 0 where
  none : (gap : ℕ) → Entries width patches gap [] []
  low : (gap number : ℕ) (numbers entries : List ℕ) → number / 2 ^ width ≡ 0 → Entries width patches (gap + 1) numbers entries
      → Entries width patches gap (number ∷ numbers) entries
  high : (gap number : ℕ) (numbers entries : List ℕ) → 0 < number / 2 ^ width → number / 2 ^ width < 2 ^ patches → gap < 256
      → Entries width patches 1 numbers entries
      → Entries width patches gap (number ∷ numbers) ((gap * 2 ^ patches + number / 2 ^ width) ∷ entries)
